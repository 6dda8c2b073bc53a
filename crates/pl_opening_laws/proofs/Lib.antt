pub mod Orderly
pub mod Holders
pub mod Kept
