pub mod Common
pub mod Lists
pub mod Members
pub mod Orders
pub mod Placements
pub mod Searches
pub mod Walks
