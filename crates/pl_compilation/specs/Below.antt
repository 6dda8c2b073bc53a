-- The libraries below whose names are given on to those above.
pub use Rattle.pl_queueing as pl_queueing
pub use Rattle.pl_snapshots as pl_snapshots
