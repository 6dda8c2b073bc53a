pub mod Below
pub mod Touched
