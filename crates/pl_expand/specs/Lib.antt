pub mod Below
pub mod Merging
pub mod Tree
