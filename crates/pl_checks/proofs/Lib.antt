pub mod Filling
pub mod Cutting
pub mod Borders
pub mod FirstPlaces
pub mod Counting
pub mod OneVerdict
