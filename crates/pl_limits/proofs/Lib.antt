pub mod Behind
pub mod Rising
pub mod Taken
pub mod Texts
pub mod Seen
pub mod Fours
