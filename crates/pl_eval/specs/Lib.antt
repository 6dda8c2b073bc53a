pub mod Applied
pub mod Gives
pub mod Held
pub mod Known
pub mod LookUps
pub mod Means
pub mod Statuses
pub mod Texts
