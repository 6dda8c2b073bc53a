-- The libraries below whose names are given on to those above.
pub use Rattle.pl_facts as pl_facts
pub use Rattle.pl_journal as pl_journal
pub use Rattle.pl_keeper as pl_keeper
pub use Rattle.pl_plan as pl_plan
