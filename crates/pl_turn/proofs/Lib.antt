pub mod Beginnings
mod TwoSeats
mod Views
mod Waits
mod Turns
mod Seatings
