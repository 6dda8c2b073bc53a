pub mod Finding
pub mod More
