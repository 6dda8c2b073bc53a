pub mod Filled
pub mod Itself
pub mod Levels
pub mod Spread
