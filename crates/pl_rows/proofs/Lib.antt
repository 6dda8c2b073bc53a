pub mod OneList
pub mod Entry
pub mod Keeping
