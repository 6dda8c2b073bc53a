-- The libraries below whose names are given on to those above.
pub use Rattle.pl_provenance as pl_provenance
pub use Rattle.pl_provenance.specs.Below.pl_calls as pl_calls
pub use Rattle.pl_provenance.specs.Below.pl_expand as pl_expand
pub use Rattle.pl_provenance.specs.Below.pl_origins as pl_origins
