pub mod Answering
pub mod Growing
pub mod Keeping
pub mod Standing
