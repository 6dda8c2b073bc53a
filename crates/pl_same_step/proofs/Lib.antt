pub mod Answering
pub mod Dueing
pub mod Granting
pub mod Queued
pub mod Saying
pub mod Seeing
pub mod Stepping
