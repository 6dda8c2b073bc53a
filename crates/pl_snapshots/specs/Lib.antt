pub mod Below
pub mod Gathering
pub mod Snapshots
