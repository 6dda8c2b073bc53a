-- Seats of a hall, as parts of a desk.
use Rattle.std.specs.Prelude.{◌≡◌, ◌≤◌, ℕ, Bool, true, false, List, [], Option, Some, None}
use Rattle.std.specs.Option.{option_map}
use mathlib.Core.List.{IsPrefix}
use Rattle.atomic_table.specs.Seated.{TableId}
use Rattle.pl_service.specs.Below.pl_compilation.specs.Made.{IsMadeOf}
use Rattle.pl_service.specs.Below.pl_core.specs.State.{State}
use Rattle.pl_facts.specs.declared.entry.Entry.{Entry}
use Rattle.pl_service.specs.Below.pl_core.specs.Below.pl_history.specs.History.{Opening}
use Rattle.pl_service.specs.Below.pl_core.specs.Below.pl_history.specs.Legal.{Legal}
use Rattle.pl_service.specs.Below.pl_core.specs.Below.pl_history.specs.Made.{WantsFor}
use Rattle.pl_requests.specs.declared.call.Call.{Call}
use Rattle.pl_requests.specs.declared.request.Request.{Request}
use Rattle.pl_requests.specs.declared.request.Request.TheVariants as request
use Rattle.pl_service.specs.Desk.{Parts}
use Rattle.pl_service.specs.declared.ahead.Ahead.{Ahead}
use Rattle.pl_service.specs.Past.{Past, log}
use Rattle.pl_snapshots.specs.declared.snapshot.Snapshot.{Snapshot}
use Rattle.pl_turn.specs.Places.{Place}

abbrev pub parts_of : Place Entry State → Parts
parts_of seat = record {
  lock = Some seat.lock;
  opening = option_map (λ (state : State). state.opening) seat.label;
  number = seat.number;
  seen = seat.seen;
  mine = seat.mine;
  turns = seat.turns;
  faults = seat.faults;
}

-- a seat of this hall that has no turn
abbrev pub IsFree : TableId → Place Entry State → Type 0
IsFree hall seat = (seat.lock ≡ hall) × (seat.turn ≡ false)

-- the seat that a hall begins with: it has seen nothing, and nothing is its own
abbrev pub first_parts : TableId → Opening → Parts
first_parts lock opening = record {
  lock = Some lock;
  opening = Some opening;
  number = 0;
  seen = [];
  mine = [];
  turns = 0;
  faults = 0;
}

-- what a seat has seen is a legal history of the service as it was opened
abbrev pub HasSeenLegal : Parts → Type 0
HasSeenLegal seat = (opening : Opening) → seat.opening ≡ Some opening → Legal opening seat.seen

-- a call wants this behind what the seat has seen
abbrev pub WantsHere : Parts → Call → Snapshot → Type 0
WantsHere seat call snapshot = (opening : Opening) × (seat.opening ≡ Some opening)
    × (let past : Past = record { opening = opening; entries = seat.seen } in
    WantsFor (log past) call (Some snapshot))

-- a call wanted something behind what the seat has seen, and that was compiled
abbrev pub IsAheadHere : Parts → Call → Ahead → Type 0
IsAheadHere seat call ahead =
    WantsHere seat call ahead.snapshot × IsMadeOf ahead.snapshot ahead.made

-- Between two turns of a desk for one call: it stays what it was, has seen no less than before, and
-- nothing more is its own.
pub record Passes (old new : Parts) : Type 0 where
  pub lock : new.lock ≡ old.lock
  pub opening : new.opening ≡ old.opening
  pub number : new.number ≡ old.number
  pub mine : new.mine ≡ old.mine
  pub begins : IsPrefix old.seen new.seen
  pub alone : old.lock ≡ None → new.seen ≡ old.seen
  pub turns : old.turns ≤ new.turns
  pub faults : old.faults ≤ new.faults

-- requests that queue a run
abbrev pub queues : Request → Bool
queues (request.QueueText text) = true
queues (request.Queue order) = true
queues other = false

-- a seat that was split from another
abbrev pub split_parts : Parts → ℕ → Parts
split_parts from number = record {
  lock = from.lock;
  opening = from.opening;
  number = number;
  seen = from.seen;
  mine = [];
  turns = 0;
  faults = 0;
}
