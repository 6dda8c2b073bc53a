pub mod Again
pub mod Below
