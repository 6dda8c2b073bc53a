-- Four seats of one hall.
use Rattle.std.specs.Prelude.{◌≡◌, ◌<◌, List}
use mathlib.Core.List.{IsPrefix}
use Rattle.atomic_table.specs.Seated.{TableId}
use Rattle.pl_hall.specs.Below.pl_core.specs.State.{State}
use Rattle.pl_facts.specs.declared.entry.Entry.{Entry}
use Rattle.pl_hall.specs.Seats.{IsFree, parts_of, split_parts}
use Rattle.pl_serve.specs.declared.four.Four.{Four}
use Rattle.pl_hall.specs.Below.pl_service.specs.Desk.{Parts}
use Rattle.pl_turn.specs.History.{longer}
use Rattle.pl_turn.specs.Places.{Place}

abbrev pub Seat : Type 0
Seat = Place Entry State

-- all are of this hall, and none has a turn
pub record AreFree (hall : TableId) (seats : Four Seat) : Type 0 where
  pub first : IsFree hall seats.first
  pub second : IsFree hall seats.second
  pub third : IsFree hall seats.third
  pub fourth : IsFree hall seats.fourth

-- the first seat has these parts, and each of the others was split from the one before it
pub record AreSplit (from : Parts) (seats : Four Seat) : Type 0 where
  pub first : parts_of seats.first ≡ from
  pub second : parts_of seats.second ≡ split_parts (parts_of seats.first) seats.second.number
  pub third : parts_of seats.third ≡ split_parts (parts_of seats.second) seats.third.number
  pub fourth : parts_of seats.fourth ≡ split_parts (parts_of seats.third) seats.fourth.number
  pub above_first : seats.first.number < seats.second.number
  pub above_second : seats.second.number < seats.third.number
  pub above_third : seats.third.number < seats.fourth.number

-- the longest of what four seats have seen, which begins with what each of them has seen
abbrev pub longest : Four Seat → List Entry
longest seats =
    longer (longer (longer seats.first.seen seats.second.seen) seats.third.seen) seats.fourth.seen

pub record IsJoined (seats : Four Seat) (seen : List Entry) : Type 0 where
  pub is : seen ≡ longest seats
  pub first : IsPrefix seats.first.seen seen
  pub second : IsPrefix seats.second.seen seen
  pub third : IsPrefix seats.third.seen seen
  pub fourth : IsPrefix seats.fourth.seen seen
