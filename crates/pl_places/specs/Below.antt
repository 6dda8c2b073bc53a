-- The libraries below whose names are given on to those above.
pub use Rattle.pl_kept as pl_kept
