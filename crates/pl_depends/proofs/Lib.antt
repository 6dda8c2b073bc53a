pub mod FirstCycles
pub mod Found
pub mod Within
