pub mod Below
pub mod History
pub mod Posts
pub mod Seats
