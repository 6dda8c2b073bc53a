-- A seat between two calls.
use Rattle.std.specs.Prelude.{◌≡◌, ℕ, ◌+◌, Bool, true, false, List, [], ◌∷◌, Option, Some, None}
use Rattle.atomic_table.specs.declared.shared.Seat.{Seat}
use Rattle.pl_turn.specs.Places.{Place}
use Rattle.pl_turn.specs.declared.view.Stage.{Stage}
use Rattle.pl_turn.specs.declared.view.Stage.TheVariants.{Idle, Waiting, Turn}
use Rattle.pl_turn.specs.declared.view.View.{View}

abbrev pub is_turn : Stage → Bool
is_turn (Turn ticket) = true
is_turn _ = false

-- the seat has no ticket and no slot, or it has the turn, the ticket below `next`, and the slot,
-- which is empty
abbrev pub IsSettled : {T : Type 0} → Stage → List (ℕ × Option T) → ℕ → Type 0
IsSettled Idle held next = held ≡ []
IsSettled (Waiting ticket) held next = ⊥
IsSettled (Turn ticket) held next = (held ≡ (0, None) ∷ []) × (next ≡ ticket + 1)

module _ {T E L : Type 0} where
  -- what a contract sees of a seat
  abbrev pub place_at : Seat (Option T) (View E L) → Place E L
  place_at s = record {
    lock = s.table_id;
    label = s.me.0.label;
    seen = s.me.0.seen;
    mine = s.me.0.mine;
    number = s.me.0.number;
    turn = is_turn s.me.0.stage;
    turns = s.me.0.turns;
    faults = s.me.0.faults;
    taken = s.me.0.taken;
  }

  abbrev pub IsAtRest : Seat (Option T) (View E L) → ℕ → ℕ → Type 0
  IsAtRest s number next =
      (s.me.0.number ≡ number) × (s.me.0.drawn ≡ true) × ((l : L) × (s.me.0.label ≡ Some l))
      × IsSettled s.me.0.stage s.me.1 next
