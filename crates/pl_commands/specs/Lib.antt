pub mod Counted
pub mod People
pub mod Run
