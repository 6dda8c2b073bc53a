pub mod Chains
pub mod Gathering
pub mod Keeping
pub mod Naming
pub mod Walks
