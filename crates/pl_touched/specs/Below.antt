-- The libraries below whose names are given on to those above.
pub use Rattle.pl_kept.specs.Below.pl_facts as pl_facts
pub use Rattle.pl_kept.specs.Below.pl_journal as pl_journal
