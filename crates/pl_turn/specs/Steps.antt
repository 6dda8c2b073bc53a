-- What each step on the words tells the seat that makes it.
use Rattle.std.specs.Prelude.{◌≡◌, ℕ, ◌+◌, ◌<◌, ◌==◌, true, false, List, [], ◌∷◌, ◌++◌}
use Rattle.std.specs.Prelude.{Option, Some, None, MatchBool}
use mathlib.Core.List.{IsPrefix}
use Rattle.atomic_table.specs.Table.{Me, Step}
use Rattle.pl_turn.specs.History.{entries_of, longer, faults_since}
use Rattle.pl_turn.specs.Rule.{KnowsItsOwn}
use Rattle.pl_turn.specs.declared.view.Stage.TheVariants.{Idle, Waiting, Turn}
use Rattle.pl_turn.specs.declared.view.View.{View}

module _ {E L : Type 0} where
  -- the view waits with a ticket
  abbrev pub waiting : ℕ → View E L → View E L
  waiting ticket v = record v { stage = Waiting ticket }

  -- the view has the turn, and with it has seen the history of a value with this count
  abbrev pub having : ℕ → List E → ℕ → View E L → View E L
  having ticket history count v =
      record v { stage = Turn ticket; seen = history; turns = v.turns + 1; taken = count }

  -- the view's turn has ended with the history of a value with this count
  abbrev pub rested : (E → ℕ) → List E → ℕ → View E L → View E L
  rested names history count v = record v {
    stage = Idle;
    seen = history;
    mine = entries_of names v.number history;
    faults = v.faults + faults_since v.taken count;
  }

  -- the view of a new seat: it has seen as much, and has no entries and no number of its own yet
  abbrev pub newcomer : View E L → View E L
  newcomer v = record {
    label = v.label;
    seen = v.seen;
    told = [];
    mine = [];
    number = v.number;
    drawn = false;
    joined = [];
    stage = Idle;
    turns = 0;
    faults = 0;
    taken = 0;
  }

  abbrev pub numbered : ℕ → View E L → View E L
  numbered number v = record v { number = number; drawn = true }

  -- the first view is told what the second has seen, and keeps its number and entries
  abbrev pub told_of : View E L → View E L → View E L
  told_of v w = record v { told = w.seen; joined = v.joined ++ (w.number, w.mine) ∷ w.joined }

  -- the view of a seat that was joined into another
  abbrev pub joined_away : View E L
  joined_away = record {
    label = None;
    seen = [];
    told = [];
    mine = [];
    number = 0;
    drawn = false;
    joined = [];
    stage = Idle;
    turns = 0;
    faults = 0;
    taken = 0;
  }

  abbrev pub learned : View E L → View E L
  learned v = record v { seen = longer v.seen v.told; told = [] }

-- a seat's view, with the slots that it has
abbrev Sat : Type 0 → Type 0 → Type 0 → Type 0
Sat T E L = Me (Option T) (View E L)

module _ {T E L : Type 0} where
  -- The seat has drawn the ticket that the word was, or the word was another and nothing changed.
  abbrev pub DrewTicket : Step (Option T) → Sat T E L → ℕ → Sat T E L → Type 0
  DrewTicket st m found m' =
      MatchBool (found == st.first) (m' ≡ (waiting found m.0, m.1)) (m' ≡ m)

  -- The seat has drawn the number that the word was, which is above the one that it kept, or the
  -- word was another and nothing changed.
  abbrev pub DrewNumber : Step (Option T) → Sat T E L → ℕ → Sat T E L → Type 0
  DrewNumber st m found m' =
      MatchBool (found == st.first)
      ((m' ≡ (numbered found m.0, m.1)) × (m.0.number < found)) (m' ≡ m)

  -- What was seen became the longer of it and what was told, and both are beginnings of it.
  abbrev pub Learned : Step (Option T) → Sat T E L → ℕ → Sat T E L → Type 0
  Learned st m found m' =
      (m' ≡ (learned m.0, m.1)) × IsPrefix m.0.seen m'.0.seen × IsPrefix m.0.told m'.0.seen

  module _ (history_of : T → List E) (label_of : T → L) (names : E → ℕ) (count_of : T → ℕ) where
    -- the seat has the turn and the value, which has its label, and whose history begins with what
    -- the seat has seen and has its entries
    abbrev pub GotTurn : ℕ → Sat T E L → Sat T E L → Type 0
    GotTurn ticket m m' =
        (y : T) × (m' ≡ (having ticket (history_of y) (count_of y) m.0, (0, Some y) ∷ m.1))
        × IsPrefix m.0.seen (history_of y) × (m.0.label ≡ Some (label_of y))
        × (m.0.mine ≡ entries_of names m.0.number (history_of y))

    -- The seat has the turn where its ticket is served, and else nothing changed.
    abbrev pub AwaitedTurn : Step (Option T) → Sat T E L → ℕ → Sat T E L → Type 0
    AwaitedTurn st m found m' =
        (ticket : ℕ) → m.0.stage ≡ Waiting ticket
        → MatchBool (found == ticket) (GotTurn ticket m m') (m' ≡ m)

  module _ (history_of : T → List E) (names : E → ℕ) (count_of : T → ℕ) where
    -- the turn has ended with this value, and the seat has seen its history
    abbrev pub Ended : T → Sat T E L → Sat T E L → Type 0
    Ended y m m' = m' ≡ (rested names (history_of y) (count_of y) m.0, [])

    -- The value that the seat had in the slot is given back. The seat's own entries were those of
    -- what it had seen.
    abbrev pub EndedTurn : Step (Option T) → Sat T E L → ℕ → Sat T E L → Type 0
    EndedTurn st m found m' =
        KnowsItsOwn names m.0.seen m.0 × ((y : T) → m.1 ≡ (0, Some y) ∷ [] → Ended y m m')
