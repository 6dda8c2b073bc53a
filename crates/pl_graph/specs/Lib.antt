pub mod Faults
pub mod Graph
pub mod Placing
pub mod Sets
pub mod Waits
pub mod Walking
