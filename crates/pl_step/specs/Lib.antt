pub mod Answering
pub mod Below
pub mod Callers
pub mod Fits
pub mod Full
pub mod Step
