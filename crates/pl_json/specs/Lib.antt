pub mod Entries
pub mod Members
pub mod Objects
pub mod formers
