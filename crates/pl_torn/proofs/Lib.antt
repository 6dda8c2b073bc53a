pub mod Finding
pub mod EachRow
pub mod Turns
