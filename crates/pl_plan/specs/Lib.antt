pub mod Labels
pub mod Laws
pub mod Legs
pub mod Limits
pub mod Planned
pub mod Plans
