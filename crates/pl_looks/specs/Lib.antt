pub mod Jobs
pub mod Laws
pub mod Looks
pub mod OneRun
pub mod Quiet
