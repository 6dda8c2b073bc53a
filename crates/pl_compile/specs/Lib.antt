pub mod Below
pub mod Codes
pub mod Compiling
pub mod Named
pub mod Reading
pub mod Refusals
pub mod Tracing
