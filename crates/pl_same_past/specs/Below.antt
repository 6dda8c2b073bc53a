-- The libraries below whose names are given on to those above.
pub use Rattle.pl_same_step as pl_same_step
pub use Rattle.pl_same_step.specs.Below.pl_same_lookups as pl_same_lookups
