-- The libraries below whose names are given on to those above.
pub use Rattle.pl_serve as pl_serve
pub use Rattle.pl_serve.specs.Below.pl_history as pl_history
