pub mod Rereading
pub mod Judging
pub mod Planned
pub mod Saying
