-- What the rule says of the views v and w of two seats, which stand at the places i and j.
use Rattle.std.specs.Prelude.{◌≡◌, ◌⊎◌, ℕ, true, List, [], Option}
use mathlib.Core.List.{IsPrefix}
use mathlib.Core.Option.{some}
use lib.ListN.{get_elem?}
use Rattle.atomic_table.specs.Table.{State}
use Rattle.pl_turn.specs.History.{entries_of}
use Rattle.pl_turn.specs.Rule.{OneHistory}
use Rattle.pl_turn.specs.declared.view.View.{View}

module _ {T E L : Type 0} (history_of : T → List E) (label_of : T → L) (names : E → ℕ) where
  -- of what the two have seen, the one begins the other
  abbrev pub OneBeginsTheOther : Type 0
  OneBeginsTheOther =
      (label : L) (s : State (Option T) (View E L)) (i j : ℕ) (v w : View E L)
      → OneHistory history_of label_of names label s
      → get_elem? s.views i ≡ some v → get_elem? s.views j ≡ some w
      → IsPrefix v.seen w.seen ⊎ IsPrefix w.seen v.seen

  -- none of the one's own entries names the number of the other
  abbrev pub NoEntryIsOfTwo : Type 0
  NoEntryIsOfTwo =
      (label : L) (s : State (Option T) (View E L)) (i j : ℕ) (v w : View E L)
      → OneHistory history_of label_of names label s
      → get_elem? s.views i ≡ some v → get_elem? s.views j ≡ some w
      → ¬ (i ≡ j) → w.drawn ≡ true → entries_of names w.number v.mine ≡ []
