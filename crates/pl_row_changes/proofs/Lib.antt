mod OnePerPlace
mod Firsts
pub mod Counts
pub mod OfEntry
pub mod Behind
