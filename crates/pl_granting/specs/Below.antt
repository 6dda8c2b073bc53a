-- The libraries below whose names are given on to those above.
pub use Rattle.pl_due as pl_due
pub use Rattle.pl_settling as pl_settling
pub use Rattle.pl_views as pl_views
