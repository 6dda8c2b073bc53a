pub mod Below
pub mod Opening
