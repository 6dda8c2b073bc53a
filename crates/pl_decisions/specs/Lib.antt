pub mod Below
pub mod Decisions
