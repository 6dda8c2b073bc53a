pub mod Fixed
pub mod Zones
pub mod Locals
