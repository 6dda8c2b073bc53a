pub mod Agreeing
pub mod Called
pub mod Ends
pub mod Expanding
pub mod Rooted
pub mod Settling
