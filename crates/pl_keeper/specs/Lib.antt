pub mod Parts
pub mod Rows
pub mod WaysOfParts
pub mod Limits
pub mod Keeping
pub mod Sorting
