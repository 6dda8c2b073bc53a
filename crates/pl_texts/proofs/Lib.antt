pub mod Bounds
pub mod Matches
pub mod Bytes
pub mod Replacing
pub mod Cutting
pub mod Characters
pub mod Contained
pub mod Filling
