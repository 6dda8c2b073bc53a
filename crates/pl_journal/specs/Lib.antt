pub mod About
pub mod Below
pub mod Counted
pub mod Kinds
pub mod Log
pub mod Runs
pub mod Settings
