-- The libraries below whose names are given on to those above.
pub use Rattle.pl_file_sets as pl_file_sets
