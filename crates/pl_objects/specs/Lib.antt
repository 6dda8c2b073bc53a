pub mod Jobs
pub mod Origins
pub mod Runs
pub mod Steps
