pub mod Goals
pub mod Parts
pub mod Routes
pub mod Rules
pub mod Table
pub mod Targets
