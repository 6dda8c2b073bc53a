pub mod Below
pub mod Replaying
