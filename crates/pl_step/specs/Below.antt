-- The libraries below whose names are given on to those above.
pub use Rattle.pl_answers as pl_answers
pub use Rattle.pl_decisions as pl_decisions
pub use Rattle.pl_jobs as pl_jobs
pub use Rattle.pl_jobs.specs.Below.pl_granting as pl_granting
pub use Rattle.pl_queueing as pl_queueing
pub use Rattle.pl_row_changes as pl_row_changes
pub use Rattle.pl_row_changes.specs.Below.pl_touched as pl_touched
pub use Rattle.pl_runs as pl_runs
pub use Rattle.pl_settings as pl_settings
