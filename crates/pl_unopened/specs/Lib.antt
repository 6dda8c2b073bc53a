pub mod Below
pub mod Unopened
