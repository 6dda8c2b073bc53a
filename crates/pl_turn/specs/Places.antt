-- What a contract sees of a seat.
use Rattle.std.specs.Prelude.{◌≡◌, ◌⊎◌, ℕ, ◌+◌, Bool, true, false, List, [], ◌∷◌, ◌++◌}
use Rattle.std.specs.Prelude.{Option, Some, refl}
use Rattle.std.specs.Coded.{Coded, code_by, coded×, coded_ℕ, coded_bool, coded_list, coded_option}
use Rattle.atomic_table.specs.Seated.{TableId, table_id_coded}
use Rattle.pl_turn.specs.History.{entries_of, faults_since}

-- A seat tells its lock, its label, what it has seen of the one history, its own entries there, its
-- number, whether it has the turn, how often it had one, how many faults were counted in its turns,
-- and the count of the value that it took last
pub record Place (E L : Type 0) : Type 0 where
  pub lock : TableId
  pub label : Option L
  pub seen : List E
  pub mine : List E
  pub number : ℕ
  pub turn : Bool
  pub turns : ℕ
  pub faults : ℕ
  pub taken : ℕ

-- the fields of a place
abbrev PlaceTuple : Type 0 → Type 0 → Type 0
PlaceTuple E L =
    TableId × (Option L × (List E × (List E × (ℕ × (Bool × (ℕ × (ℕ × ℕ)))))))

-- the table of a lock has three words and one slot
abbrev pub IsTurnTable : TableId → Type 0
IsTurnTable table = (table.words ≡ 3) × (table.slots ≡ 1)

module _ {E L : Type 0} where
  abbrev tuple_of : Place E L → PlaceTuple E L
  tuple_of p =
      (p.lock, (p.label, (p.seen, (p.mine, (p.number, (p.turn, (p.turns, (p.faults, p.taken))))))))

  abbrev place_of : PlaceTuple E L → Place E L
  place_of t = record {
    lock = t.0;
    label = t.1.0;
    seen = t.1.1.0;
    mine = t.1.1.1.0;
    number = t.1.1.1.1.0;
    turn = t.1.1.1.1.1.0;
    turns = t.1.1.1.1.1.1.0;
    faults = t.1.1.1.1.1.1.1.0;
    taken = t.1.1.1.1.1.1.1.1;
  }

  -- a place is stored as the tuple of its fields
  abbrev pub place_code : Coded E → Coded L → Coded (Place E L)
  place_code e l =
      code_by (PlaceTuple E L)
      (coded× table_id_coded
      (coded× (coded_option l)
      (coded× (coded_list e)
      (coded× (coded_list e)
      (coded× coded_ℕ
      (coded× coded_bool (coded× coded_ℕ (coded× coded_ℕ coded_ℕ))))))))
      tuple_of place_of (λ _. refl)

  -- the first seat of a lock
  abbrev pub first_place : TableId → L → Place E L
  first_place lock label = record {
    lock = lock;
    label = Some label;
    seen = [];
    mine = [];
    number = 0;
    turn = false;
    turns = 0;
    faults = 0;
    taken = 0;
  }

  -- a seat that took a value with this history and this count
  abbrev pub having_taken : List E → ℕ → Place E L → Place E L
  having_taken history count p =
      record p { seen = history; turn = true; turns = p.turns + 1; taken = count }

  -- a seat that gave a value with this history and this count back
  abbrev pub given_back : (E → ℕ) → List E → ℕ → Place E L → Place E L
  given_back names history count p = record p {
    seen = history;
    mine = entries_of names p.number history;
    turn = false;
    faults = p.faults + faults_since p.taken count;
  }

  -- a new seat with this number, which was split from another
  abbrev pub split_place : Place E L → ℕ → Place E L
  split_place from number = record {
    lock = from.lock;
    label = from.label;
    seen = from.seen;
    mine = [];
    number = number;
    turn = false;
    turns = 0;
    faults = 0;
    taken = 0;
  }

  -- what was seen and the seat's own entries stay, or grow by one entry, which names the seat
  abbrev pub Grows : (E → ℕ) → Place E L → Place E L → Type 0
  Grows names before after =
      ((after.seen ≡ before.seen) × (after.mine ≡ before.mine))
      ⊎ ((entry : E) × (names entry ≡ before.number)
      × (after.seen ≡ before.seen ++ entry ∷ []) × (after.mine ≡ before.mine ++ entry ∷ []))
