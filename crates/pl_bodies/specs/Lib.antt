pub mod Atoms
pub mod Checks
pub mod Fields
pub mod Meaning
pub mod Settings
pub mod Words
