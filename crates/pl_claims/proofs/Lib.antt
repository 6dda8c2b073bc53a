pub mod Choosing
pub mod Orders
pub mod Turns
