pub mod Chains
pub mod Ending
pub mod Rounds
pub mod Sofar
pub mod Through
