pub mod Below
pub mod Past
pub mod Rooted
