pub mod Below
pub mod Ends
pub mod Kept
pub mod Told
