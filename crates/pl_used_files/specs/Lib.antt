pub mod Alone
pub mod Below
