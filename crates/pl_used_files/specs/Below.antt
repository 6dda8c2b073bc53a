-- The libraries below whose names are given on to those above.
pub use Rattle.pl_expand.specs.Below.pl_root as pl_root
