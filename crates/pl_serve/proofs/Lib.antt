pub mod Growing
pub mod Sending
pub mod Standing
