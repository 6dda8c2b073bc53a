pub mod Below
pub mod Doors
pub mod Serving
pub mod Statuses
