pub mod Allowed
pub mod Below
pub mod Gives
pub mod Laws
pub mod Settles
