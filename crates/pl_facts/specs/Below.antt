-- The libraries below whose names are given on to those above.
pub use Rattle.pl_plan as pl_plan
pub use Rattle.pl_requests as pl_requests
