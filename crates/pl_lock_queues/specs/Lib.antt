pub mod Asked
pub mod Queues
