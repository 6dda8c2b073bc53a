pub mod Served
pub mod Sharing
