pub mod Moments
pub mod Readiness
pub mod Turns
