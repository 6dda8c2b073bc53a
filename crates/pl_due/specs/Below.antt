-- The libraries below whose names are given on to those above.
pub use Rattle.pl_cond as pl_cond
pub use Rattle.pl_journal as pl_journal
pub use Rattle.pl_open_runs as pl_open_runs
pub use Rattle.pl_results as pl_results
pub use Rattle.pl_views as pl_views
