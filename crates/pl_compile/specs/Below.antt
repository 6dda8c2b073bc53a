-- The libraries below whose names are given on to those above.
pub use Rattle.pl_step_origins.specs.Below.pl_expand as pl_expand
