-- The libraries below whose names are given on to those above.
pub use Rattle.pl_compilation as pl_compilation
pub use Rattle.pl_compilation.specs.Below.pl_queueing as pl_queueing
pub use Rattle.pl_due as pl_due
pub use Rattle.pl_opened as pl_opened
pub use Rattle.pl_seeing as pl_seeing
