pub mod Reading
pub mod Named
pub mod Handing
pub mod Tracing
pub mod Whole
