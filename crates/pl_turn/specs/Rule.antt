-- The rule of the turn lock: there is one history, and every seat knows a beginning of it.
-- It is a ticket lock, as in Mellor-Crummey and Scott, "Algorithms for Scalable Synchronization on
-- Shared-Memory Multiprocessors", 1991. It has three words, which are the ticket that is served,
-- the next ticket and the next number of a seat, and one slot for the value.
use Rattle.std.specs.Prelude.{◌≡◌, ◌⊎◌, ℕ, ◌+◌, ◌<◌, ◌≤◌, Bool, true, List, [], ◌∷◌}
use Rattle.std.specs.Prelude.{Option, Some, None, is_some, All, Contains, count_by, MatchBool}
use mathlib.Core.List.{IsPrefix}
use mathlib.Core.Option.{some, none}
use lib.ListN.{get_elem?}
use Rattle.atomic_table.specs.Table.{State}
use Rattle.pl_turn.specs.History.{entries_of}
use Rattle.pl_turn.specs.declared.view.Stage.{Stage}
use Rattle.pl_turn.specs.declared.view.Stage.TheVariants.{Idle, Waiting, Turn}
use Rattle.pl_turn.specs.declared.view.View.{View}

-- the ticket that a seat has drawn and not yet given up
abbrev pub ticket_of : Stage → Option ℕ
ticket_of Idle = None
ticket_of (Waiting ticket) = Some ticket
ticket_of (Turn ticket) = Some ticket

module _ {E L : Type 0} where
  -- the view of the first seat, whose number is 0
  abbrev pub founder : L → View E L
  founder label = record {
    label = Some label;
    seen = [];
    told = [];
    mine = [];
    number = 0;
    drawn = true;
    joined = [];
    stage = Idle;
    turns = 0;
    faults = 0;
    taken = 0;
  }

  abbrev pub has_ticket : View E L → Bool
  has_ticket v = is_some (ticket_of v.stage)

  -- a live seat is one that wasn't joined away
  abbrev pub IsLive : View E L → Type 0
  IsLive v = (l : L) × (v.label ≡ Some l)

  -- the view's seat has the ticket
  abbrev pub HasTicket : View E L → ℕ → Type 0
  HasTicket v ticket = ticket_of v.stage ≡ Some ticket

  -- the number is the one that the seat has drawn, or that of a seat that was joined into it
  abbrev pub HasNumber : View E L → ℕ → Type 0
  HasNumber v number =
      ((v.drawn ≡ true) × (v.number ≡ number))
      ⊎ ((es : List E) × Contains v.joined (number, es))

  -- no two views have one of these: each has it alone
  abbrev pub IsDistinct : (View E L → ℕ → Type 0) → List (View E L) → Type 0
  IsDistinct Has views =
      (i j : ℕ) (v w : View E L) (n : ℕ) → get_elem? views i ≡ some v → get_elem? views j ≡ some w
      → Has v n → Has w n → i ≡ j

module _ {E L : Type 0} (names : E → ℕ) (history : List E) where
  -- All live seats tell one label.
  abbrev pub TellsLabel : L → View E L → Type 0
  TellsLabel label v = (l : L) → v.label ≡ Some l → l ≡ label

  -- Every live seat's seen is a prefix of the one history, and so is what it was told.
  abbrev pub SawBeginning : View E L → Type 0
  SawBeginning v = IsPrefix v.seen history × IsPrefix v.told history

  -- A live seat's mine is that history's entries with its number. A view that hasn't drawn a number
  -- has an empty mine.
  abbrev pub KnowsItsOwn : View E L → Type 0
  KnowsItsOwn v = MatchBool v.drawn (v.mine ≡ entries_of names v.number history) (v.mine ≡ [])

  -- Numbers lie below the word `seats`, and so does the number that a view keeps that hasn't drawn
  -- one.
  abbrev pub IsNumberedBelow : ℕ → View E L → Type 0
  IsNumberedBelow seats v =
      (IsLive v → v.number < seats) × ((n : ℕ) → HasNumber v n → n < seats)

  -- The entries of numbers whose seats were joined away stay. None of these numbers is the seat's
  -- own.
  abbrev pub KeepsJoined : View E L → Type 0
  KeepsJoined v =
      (n : ℕ) (es : List E) → Contains v.joined (n, es)
      → (entries_of names n history ≡ es) × (v.drawn ≡ true → ¬ (v.number ≡ n))

  -- A view's ticket lies from serving up to below ticket.
  abbrev pub IsTicketWithin : ℕ → ℕ → View E L → Type 0
  IsTicketWithin serving ticket v = (t : ℕ) → HasTicket v t → (serving ≤ t) × (t < ticket)

  -- At most one view has the turn, the holder's. It has the ticket serving, and its seen is the one
  -- history.
  abbrev pub HoldsTurn : ℕ → Option ℕ → ℕ → View E L → Type 0
  HoldsTurn serving holder i v =
      (t : ℕ) → v.stage ≡ Turn t → (t ≡ serving) × (holder ≡ Some i) × (v.seen ≡ history)

  -- what the rule says of the view v at the place i
  pub record Fits (l : L) (serving ticket seats : ℕ) (holder : Option ℕ) (i : ℕ) (v : View E L)
      : Type 0 where
    pub one_label : TellsLabel l v
    pub beginning : SawBeginning v
    pub own : KnowsItsOwn v
    pub number : IsNumberedBelow seats v
    pub joined_stay : KeepsJoined v
    pub ticket_within : IsTicketWithin serving ticket v
    pub one_turn : HoldsTurn serving holder i v

module _ {T E L : Type 0} (history_of : T → List E) (label_of : T → L) where
  -- While no view has the turn, the slot holds a value, which has the one label and stands for the
  -- one history. While one view has the turn, the slot is out with its seat.
  abbrev pub Slot : L → List E → Option ℕ → State (Option T) (View E L) → Type 0
  Slot label history None s =
      (y : T) × (s.homes ≡ some (Some y) ∷ []) × (history_of y ≡ history) × (label_of y ≡ label)
  Slot label history (Some i) s =
      (s.homes ≡ none ∷ [])
      × ((v : View E L) × (t : ℕ) × (get_elem? s.views i ≡ some v) × (v.stage ≡ Turn t))

-- There is one history. It is what the seat that has the turn has seen, and else what the value in
-- the slot stands for. `holder` is the place of the view that has the turn
pub record OneHistory {T E L : Type 0}
    (history_of : T → List E) (label_of : T → L) (names : E → ℕ) (label : L)
    (s : State (Option T) (View E L)) : Type 0 where
  pub history : List E
  pub serving : ℕ
  pub ticket : ℕ
  pub seats : ℕ
  pub holder : Option ℕ
  pub words : s.words ≡ serving ∷ ticket ∷ seats ∷ []
  pub slot : Slot history_of label_of label history holder s
  pub each : (i : ℕ) (v : View E L) → get_elem? s.views i ≡ some v
      → Fits names history label serving ticket seats holder i v
  -- Numbers differ.
  pub numbers_differ : IsDistinct HasNumber s.views
  -- The views' tickets differ.
  pub tickets_differ : IsDistinct HasTicket s.views
  -- Serving plus the number of views with a ticket is ticket.
  pub tickets_counted : serving + count_by has_ticket s.views ≡ ticket
  -- No entry names a number at or above `seats`.
  pub named_below : All (λ e. names e < seats) history
