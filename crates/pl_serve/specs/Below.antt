-- The libraries below whose names are given on to those above.
pub use Rattle.pl_hall as pl_hall
pub use Rattle.pl_hall.specs.Below.pl_core as pl_core
pub use Rattle.pl_hall.specs.Below.pl_history as pl_history
pub use Rattle.pl_hall.specs.Below.pl_service as pl_service
