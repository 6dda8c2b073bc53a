pub mod Asking
pub mod Drawn
pub mod Parts
pub mod Rehearsal
