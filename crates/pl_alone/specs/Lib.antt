pub mod Below
pub mod Desk
pub mod Lasting
