-- The libraries below whose names are given on to those above.
pub use Rattle.pl_places as pl_places
pub use Rattle.pl_places.specs.Below.pl_kept as pl_kept
pub use Rattle.pl_touched as pl_touched
