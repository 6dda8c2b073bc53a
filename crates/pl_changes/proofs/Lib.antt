pub mod Places
pub mod Filtering
pub mod Leading
pub mod Differs
pub mod Joining
pub mod There
