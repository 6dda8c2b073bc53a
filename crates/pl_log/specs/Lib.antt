pub mod Keys
pub mod Kept
pub mod Latest
pub mod Logged
pub mod Rows
pub mod Tables
