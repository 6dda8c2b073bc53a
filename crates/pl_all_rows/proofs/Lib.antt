mod Members
mod Bringing
pub mod Pushed
pub mod Ordered
pub mod Leaving
