pub mod Bodies
pub mod Cutting
pub mod Placing
pub mod Texts
pub mod Writing
