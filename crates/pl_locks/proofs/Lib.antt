pub mod Chosen
pub mod Keeping
pub mod Moved
pub mod Ordered
pub mod Progress
