pub mod Below
pub mod Expanding
pub mod Following
pub mod Levels
pub mod Putting
pub mod Scalars
pub mod Settling
