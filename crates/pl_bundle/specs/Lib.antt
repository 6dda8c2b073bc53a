pub mod Bundles
pub mod Cuts
pub mod Heads
pub mod Taking
pub mod Written
