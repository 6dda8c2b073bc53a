-- The libraries below whose names are given on to those above.
pub use Rattle.pl_due as pl_due
pub use Rattle.pl_due.specs.Below.pl_results as pl_results
