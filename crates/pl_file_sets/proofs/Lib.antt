mod Leaves
pub mod Sending
mod Sets
mod Tries
