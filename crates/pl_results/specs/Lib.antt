pub mod Combining
pub mod Members
pub mod Nodes
pub mod Parts
pub mod Runs
pub mod Transitive
