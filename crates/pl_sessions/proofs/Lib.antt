pub mod Endings
pub mod Forms
pub mod Halts
pub mod Sessions
pub mod Streams
pub mod Through
