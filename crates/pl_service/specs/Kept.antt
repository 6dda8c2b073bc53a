-- The rows that are kept of a service, at each time.
use Rattle.std.specs.Prelude.{List, [], Option, IfSome}
use Rattle.pl_base.specs.declared.row.Row.{Row}
use Rattle.pl_opening.specs.Below.pl_core.specs.Rows.{AreKept}
use Rattle.pl_opening.specs.Below.pl_core.specs.State.{State}
use Rattle.pl_facts.specs.declared.entry.Entry.{Entry}
use Rattle.pl_opening.specs.Below.pl_history.specs.Claims.{IsOrderly}
use Rattle.pl_opening.specs.Below.pl_history.specs.History.{Opening}
use Rattle.pl_keeper.specs.Keeping.{IsInOrder}
use Rattle.pl_opening.specs.Opening.{IsOpenedOf}

-- a service that was opened with this and has these entries since, and in which nothing is prepared
abbrev pub state_at : Opening → List Entry → State
state_at opening entries = record { opening = opening; entries = entries; pending = [] }

-- What this asks of an opening: it is orderly, and whatever rows it is told by are those of the
-- service then.
pub record IsKeepable (opening : Opening) : Type 0 where
  pub orderly : IsOrderly opening
  pub rows :
      (rows : List Row) → IsInOrder rows → IsOpenedOf opening.admin rows opening
      → AreKept (state_at opening []) rows

-- where the rows are told, they are those of the service
abbrev pub IsKeptAt : Opening → List Entry → Option (List Row) → Type 0
IsKeptAt opening entries told =
    IsKeepable opening → IfSome told (AreKept (state_at opening entries))
