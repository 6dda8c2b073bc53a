pub mod History
pub mod Laws
pub mod Places
pub mod Rule
pub mod Seats
pub mod Steps
