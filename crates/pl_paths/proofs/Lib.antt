pub mod Cuts
pub mod Resolved
