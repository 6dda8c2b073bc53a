-- The rows that are kept of a service.
use Rattle.std.specs.Prelude.{◌≡◌, List, Option, Some, None}
use Rattle.pl_base.specs.declared.row.Change.{Change}
use Rattle.pl_base.specs.declared.row.Row.{Row}
use Rattle.pl_opening.specs.Below.pl_core.specs.Rows.{AreKept}
use Rattle.pl_opening.specs.Below.pl_core.specs.State.{State}
use Rattle.pl_facts.specs.declared.entry.Entry.{Entry}
use Rattle.pl_opening.specs.Below.pl_history.specs.Claims.{IsOrderly}
use Rattle.pl_keeper.specs.Keeping.{all_changed}
use Rattle.pl_service.specs.Kept.{state_at}
use Rattle.pl_service.specs.Past.{Past}

abbrev pub AreSame : List Row → List Row → Type 0
AreSame before after = after ≡ before

-- an entry makes its changes, and else nothing changes
abbrev pub AreChangedBy : Option Entry → List Change → List Row → List Row → Type 0
AreChangedBy None changes before after = after ≡ before
AreChangedBy (Some entry) changes before after = after ≡ all_changed changes before

-- a service that has been through this, and in which nothing is prepared
abbrev pub state_of : Past → State
state_of past = state_at past.opening past.entries

-- What were the rows of the service before are its rows behind. It is asked of the opening that it
-- is orderly, as that of a new service is.
abbrev pub StayKept : Past → Past → List Row → List Row → Type 0
StayKept old new before after =
    IsOrderly old.opening → AreKept (state_of old) before → AreKept (state_of new) after
