pub mod InOrder
pub mod Compiling
