pub mod Options
pub mod Parameters
pub mod Runs
pub mod Words
