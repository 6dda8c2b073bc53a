pub mod Fields
pub mod Found
pub mod Framing
pub mod Fronts
pub mod Heads
pub mod Lines
pub mod Tally
pub mod Reading
