-- The libraries below whose names are given on to those above.
pub use Rattle.pl_opening as pl_opening
