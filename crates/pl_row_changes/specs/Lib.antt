pub mod Below
pub mod Changing
pub mod Counting
pub mod Looking
