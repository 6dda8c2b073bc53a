pub mod Below
pub mod Kept
pub mod Prepared
pub mod Rows
pub mod State
