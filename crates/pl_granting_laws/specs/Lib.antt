pub mod Below
pub mod Histories
