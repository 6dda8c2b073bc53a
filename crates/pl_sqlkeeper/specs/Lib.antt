pub mod Faults
pub mod Keeper
pub mod Kept
pub mod Schema
pub mod Statements
pub mod Stored
