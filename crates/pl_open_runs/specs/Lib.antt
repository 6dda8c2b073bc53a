pub mod Index
pub mod Open
