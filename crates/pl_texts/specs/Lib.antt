pub mod Bound
pub mod Changing
pub mod Formatting
pub mod Gives
pub mod Matching
pub mod Pieces
