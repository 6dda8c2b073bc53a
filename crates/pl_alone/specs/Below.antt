-- The libraries below whose names are given on to those above.
pub use Rattle.pl_service as pl_service
pub use Rattle.pl_service.specs.Below.pl_compilation as pl_compilation
pub use Rattle.pl_service.specs.Below.pl_core as pl_core
pub use Rattle.pl_service.specs.Below.pl_history as pl_history
pub use Rattle.pl_service.specs.Below.pl_opened as pl_opened
pub use Rattle.pl_service.specs.Below.pl_opening as pl_opening
pub use Rattle.pl_service.specs.Below.pl_seeing as pl_seeing
