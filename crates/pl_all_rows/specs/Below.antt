-- The libraries below whose names are given on to those above.
pub use Rattle.pl_row_changes as pl_row_changes
pub use Rattle.pl_row_changes.specs.Below.pl_rows as pl_rows
pub use Rattle.pl_touched as pl_touched
