-- The libraries below whose names are given on to those above.
pub use Rattle.pl_core as pl_core
pub use Rattle.pl_core.specs.Below.pl_granting as pl_granting
pub use Rattle.pl_core.specs.Below.pl_granting_laws as pl_granting_laws
pub use Rattle.pl_core.specs.Below.pl_history as pl_history
pub use Rattle.pl_core.specs.Below.pl_row_changes as pl_row_changes
pub use Rattle.pl_core.specs.Below.pl_settling as pl_settling
pub use Rattle.pl_core.specs.Below.pl_step as pl_step
pub use Rattle.pl_opened_laws as pl_opened_laws
pub use Rattle.pl_opened_laws.specs.Below.pl_compilation as pl_compilation
pub use Rattle.pl_opened_laws.specs.Below.pl_due as pl_due
pub use Rattle.pl_opened_laws.specs.Below.pl_opened as pl_opened
pub use Rattle.pl_opened_laws.specs.Below.pl_queueing as pl_queueing
pub use Rattle.pl_opened_laws.specs.Below.pl_seeing as pl_seeing
