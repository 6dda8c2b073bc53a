pub mod Below
pub mod Limits
pub mod Places
