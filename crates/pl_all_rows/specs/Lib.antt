pub mod Below
pub mod Brought
