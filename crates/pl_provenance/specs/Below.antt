-- The libraries below whose names are given on to those above.
pub use Rattle.pl_calls as pl_calls
pub use Rattle.pl_expand as pl_expand
pub use Rattle.pl_expand.specs.Below.pl_extends as pl_extends
pub use Rattle.pl_origins as pl_origins
