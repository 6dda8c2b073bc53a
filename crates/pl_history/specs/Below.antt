-- The libraries below whose names are given on to those above.
pub use Rattle.pl_compilation as pl_compilation
pub use Rattle.pl_granting_laws as pl_granting_laws
pub use Rattle.pl_granting_laws.specs.Below.pl_granting as pl_granting
pub use Rattle.pl_granting_laws.specs.Below.pl_settling as pl_settling
pub use Rattle.pl_granting_laws.specs.Below.pl_settling.specs.Below.pl_due as pl_due
pub use Rattle.pl_step as pl_step
pub use Rattle.pl_step.specs.Below.pl_queueing as pl_queueing
