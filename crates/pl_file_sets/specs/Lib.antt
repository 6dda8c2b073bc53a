pub mod Sets
pub mod Spread
pub mod Tries
