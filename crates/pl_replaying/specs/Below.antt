-- The libraries below whose names are given on to those above.
pub use Rattle.pl_alone as pl_alone
pub use Rattle.pl_alone.specs.Below.pl_service as pl_service
pub use Rattle.pl_unopened as pl_unopened
