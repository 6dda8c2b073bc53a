mod Members
pub mod Borders
pub mod Sayings
