pub mod Below
pub mod Summary
