-- The libraries below whose names are given on to those above.
pub use Rattle.pl_granting as pl_granting
pub use Rattle.pl_granting.specs.Below.pl_settling as pl_settling
