pub mod Foreign
pub mod Refusals
pub mod Stores
