mod Fresh
pub mod Sending
