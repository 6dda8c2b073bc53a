pub mod Ahead
pub mod Begun
pub mod Below
pub mod Desk
pub mod Grown
pub mod Kept
pub mod Past
pub mod Rows
