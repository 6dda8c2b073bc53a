pub mod Itself
pub mod Shown
