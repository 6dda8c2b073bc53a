pub mod Arguments
pub mod Counting
pub mod Frames
pub mod Keys
pub mod Reading
pub mod Resources
