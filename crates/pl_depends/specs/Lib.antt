pub mod Codes
pub mod Cycles
pub mod Gives
pub mod Graph
pub mod Known
pub mod Places
