pub mod Chains
pub mod Finding
pub mod FileKeys
pub mod Cases
