pub mod Planned
pub mod Reading
pub mod Schema
