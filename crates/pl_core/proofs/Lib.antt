pub mod Installing
pub mod Keeping
pub mod Opened
pub mod Preparing
pub mod Rowed
