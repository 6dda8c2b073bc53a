pub mod Front
pub mod Guards
pub mod Misses
pub mod Ending
