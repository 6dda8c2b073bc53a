pub mod Flows
pub mod Whole
