pub mod Below
pub mod Entry
pub mod State
