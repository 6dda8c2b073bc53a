-- What a service that was opened of kept rows stands on.
use Rattle.std.specs.Prelude.{◌≡◌, List, []}
use Rattle.pl_base.specs.declared.digest.Digest.{Digest}
use Rattle.pl_base.specs.declared.row.Row.{Row}
use Rattle.pl_opening.specs.Below.pl_core.specs.Rows.{AreKept}
use Rattle.pl_opening.specs.Below.pl_core.specs.State.{opened_state}
use Rattle.pl_opening.specs.Below.pl_history.specs.Access.{IsSound}
use Rattle.pl_opening.specs.Below.pl_history.specs.Claims.{IsOrderly}
use Rattle.pl_opening.specs.Below.pl_history.specs.History.{Opening, opened}
use Rattle.pl_keeper.specs.Keeping.{IsInOrder}
use Rattle.pl_opening.specs.Opening.{IsOpenedOf}

-- something holds of all that whole rows in order open
abbrev pub Opens : (List Row → Opening → Type 0) → Type 0
Opens holds = (admin : Digest) (rows : List Row) (opening : Opening) → IsInOrder rows →
    IsOpenedOf admin rows opening → holds rows opening

-- the rows are those of the service that they open
abbrev pub RowsAreKept : Type 0
RowsAreKept = Opens (λ rows opening. AreKept (opened_state opening) rows)

-- stages were started of queued runs alone, jobs have ended where their stages have, and no run's
-- number is above that of the last one
abbrev pub AreOrderly : Type 0
AreOrderly = Opens (λ rows opening. IsOrderly opening)

-- an exclusive resource has one holder at most
abbrev pub AreSound : Type 0
AreSound = Opens (λ rows opening. IsSound opening)

-- without rows nothing has happened before
abbrev pub OpenNothing : Type 0
OpenNothing = (admin : Digest) (opening : Opening) → IsOpenedOf admin [] opening →
    opening ≡ opened admin
