-- The libraries below whose names are given on to those above.
pub use Rattle.pl_extends as pl_extends
pub use Rattle.pl_root as pl_root
