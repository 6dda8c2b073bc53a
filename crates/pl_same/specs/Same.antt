-- States of which the same is kept.
use Rattle.std.specs.Prelude.{◌≡◌, ℕ, List, IfSome}
use Rattle.pl_base.specs.declared.row.Row.{Row}
use Rattle.pl_journal.specs.Log.{Log}
use Rattle.pl_keeper.specs.Rows.{IsKept}
use Rattle.pl_kept.specs.Kept.{kept_at, numbers_kept, Where}
use Rattle.pl_rows.specs.Entry.{AllFit}
use Rattle.pl_rows.specs.State.{AreRows}

-- the rows of a state, of which all can be read again
pub record AreTheirs (change : ℕ) (log : Log) (rows : List Row) : Type 0 where
  pub fit : AllFit log.facts
  pub numbers : IfSome (numbers_kept change log) IsKept
  pub are : AreRows change log rows

-- at each place the same is kept: of each file, pipeline, resource, principal and agent what was
-- set, of each run, stage and job what has become of it, of each decision how it was made; and the
-- service's numbers are the same
pub record KeepTheSame (change : ℕ) (log : Log) (other_change : ℕ) (other : Log) : Type 0 where
  pub each : (at : Where) → kept_at at log.facts ≡ kept_at at other.facts
  pub numbers : numbers_kept change log ≡ numbers_kept other_change other
