pub mod Gathered
pub mod Kept
pub mod Memory
pub mod Nothing
pub mod Readings
pub mod Tokens
pub mod Waits
