pub mod Asked
pub mod Json
pub mod Message
pub mod Refusals
pub mod Waiting
pub mod Written
