-- The libraries below whose names are given on to those above.
pub use Rattle.pl_granting as pl_granting
pub use Rattle.pl_granting_laws as pl_granting_laws
pub use Rattle.pl_history as pl_history
pub use Rattle.pl_history.specs.Below.pl_step as pl_step
pub use Rattle.pl_history.specs.Below.pl_queueing as pl_queueing
pub use Rattle.pl_seeing as pl_seeing
pub use Rattle.pl_snapshots as pl_snapshots
pub use Rattle.pl_sources as pl_sources
pub use Rattle.pl_views as pl_views
