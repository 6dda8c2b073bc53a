pub mod Mapped
pub mod QueuedRuns
