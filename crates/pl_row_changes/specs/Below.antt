-- The libraries below whose names are given on to those above.
pub use Rattle.pl_rows as pl_rows
pub use Rattle.pl_rows.specs.Below.pl_places as pl_places
pub use Rattle.pl_rows.specs.Below.pl_touched as pl_touched
pub use Rattle.pl_touching as pl_touching
pub use Rattle.pl_touching.specs.Below.pl_spots as pl_spots
