-- The libraries below whose names are given on to those above.
pub use Rattle.pl_all_rows.specs.Below.pl_row_changes as pl_row_changes
pub use Rattle.pl_history as pl_history
pub use Rattle.pl_history.specs.Below.pl_due as pl_due
pub use Rattle.pl_history.specs.Below.pl_granting as pl_granting
pub use Rattle.pl_history.specs.Below.pl_granting_laws as pl_granting_laws
pub use Rattle.pl_history.specs.Below.pl_settling as pl_settling
pub use Rattle.pl_history.specs.Below.pl_step as pl_step
pub use Rattle.pl_snapshots as pl_snapshots
