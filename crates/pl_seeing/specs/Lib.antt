pub mod Below
pub mod Seeing
pub mod Sharing
