pub mod OpenAlone
pub mod Turns
