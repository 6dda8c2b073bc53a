pub mod Finding
pub mod Paths
pub mod Walks
