-- The kept rows of a state.
use Rattle.std.specs.Prelude.{List}
use Rattle.pl_base.specs.declared.row.Row.{Row}
use Rattle.pl_core.specs.State.{State, held, log}
use Rattle.pl_all_rows.specs.Below.pl_rows.specs.Entry.{AllFit}
use Rattle.pl_all_rows.specs.Below.pl_rows.specs.State.{AreRows}

-- they are those of all that has happened, and all that is kept can be read again
pub record AreKept (state : State) (rows : List Row) : Type 0 where
  pub fit : AllFit (log state).facts
  pub rows_are : AreRows (held state).change (log state) rows
