pub mod Jobs
pub mod Pipelines
pub mod Stages
