pub mod Doors
pub mod Outfit
pub mod Outside
pub mod Statuses
pub mod Stores
