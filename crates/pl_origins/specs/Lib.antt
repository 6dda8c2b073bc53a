pub mod Behind
pub mod Below
pub mod Places
pub mod Spots
pub mod Through
