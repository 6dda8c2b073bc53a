pub mod ByRuns
pub mod Kinds
pub mod Runs
pub mod Uses
