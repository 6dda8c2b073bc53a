-- The libraries below whose names are given on to those above.
pub use Rattle.pl_alone as pl_alone
