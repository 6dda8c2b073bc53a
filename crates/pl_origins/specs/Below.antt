-- The libraries below whose names are given on to those above.
pub use Rattle.pl_recursion as pl_recursion
