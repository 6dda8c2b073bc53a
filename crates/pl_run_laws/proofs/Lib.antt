pub mod Behind
pub mod ByRuns
pub mod Due
pub mod Same
