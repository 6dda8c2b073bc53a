-- The rows of a state.
use Rattle.std.specs.Prelude.{◌≡◌, ◌⊎◌, ℕ, List, [], Some}
use Rattle.std.specs.Option.{option_map}
use Rattle.pl_base.specs.declared.row.Row.{Row}
use Rattle.pl_touched.specs.Below.pl_journal.specs.Log.{Log}
use Rattle.pl_keeper.specs.Rows.{row_of}
use Rattle.pl_changes.specs.Differing.{row_in, Ascend}
use Rattle.pl_places.specs.Below.pl_kept.specs.Kept.{numbers_kept, row_at, Where}
use Rattle.pl_places.specs.Places.{place_at, Fits}

-- the place in bytes is that of something that can be kept
pub record IsPlace (at : ℕ × List ℕ) : Type 0 where
  pub here : Where
  pub fits : Fits here
  pub same : place_at here ≡ at

-- In order of table and key: the service's numbers from the first change of a row on, at each place
-- the row that is kept there, and no other row. `change` is the number of the next change.
pub record AreRows (change : ℕ) (log : Log) (rows : List Row) : Type 0 where
  pub ascend : Ascend rows
  pub numbers : row_in (0, []) rows ≡ option_map row_of (numbers_kept change log)
  pub each : (at : Where) → Fits at → row_in (place_at at) rows ≡ row_at at log.facts
  pub only : (at : ℕ × List ℕ) (row : Row) → row_in at rows ≡ Some row →
      (at ≡ (0, [])) ⊎ IsPlace at
