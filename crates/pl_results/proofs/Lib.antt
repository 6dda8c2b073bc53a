pub mod ByName
pub mod EdgeTurns
pub mod Once
pub mod Orderly
pub mod Outweighing
pub mod Transitivity
pub mod Turns
