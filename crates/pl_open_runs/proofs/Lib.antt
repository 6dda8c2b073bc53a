pub mod Keeping
pub mod Looking
pub mod Numbers
pub mod OpenRuns
pub mod Steps
