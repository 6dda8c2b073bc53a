pub mod Acts
pub mod Desk
pub mod Halts
pub mod Messages
pub mod Parts
pub mod Session
pub mod Told
