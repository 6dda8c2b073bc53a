pub mod Below
pub mod Grown
pub mod Opening
pub mod Seats
