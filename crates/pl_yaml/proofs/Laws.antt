pub mod BlockScalars
pub mod Bytes
pub mod Content
pub mod Many
pub mod Plain
pub mod Stack
pub mod Texts
