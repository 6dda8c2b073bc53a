pub mod Clocks
pub mod Unique
