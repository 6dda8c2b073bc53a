pub mod Handles
pub mod Shown
