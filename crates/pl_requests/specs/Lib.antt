pub mod Below
pub mod Replies
pub mod WellFormed
