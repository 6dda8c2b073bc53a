-- What the rule says of two seats.
use Rattle.std.proofs.Common.{◌≡◌, ◌⊎◌, ℕ, Bool, true, false, List, [], length, Option, MatchBool}
use Rattle.std.proofs.Common.{ap, ◌∙◌, inl, inr, arith, refl}
use mathlib.Core.List.{IsPrefix}
use mathlib.Core.Logic.{dite}
use mathlib.Core.Option.{some}
use native.Mathlib.Decide.{dec_le}
use lib.ListN.{get_elem?}
use Rattle.atomic_table.specs.Table.{State}
use Rattle.pl_turn.specs.History.{entries_of}
use Rattle.pl_turn.specs.Rule.{OneHistory}
use Rattle.pl_turn.specs.declared.view.View.{View}
use Rattle.pl_turn.proofs.Beginnings.{prefix-between, entries-apart}

module _ {T E L : Type 0} (history_of : T → List E) (label_of : T → L) (names : E → ℕ) (l : L) where
  pub one_begins_the_other : (s : State (Option T) (View E L)) (i j : ℕ) (v w : View E L)
      → OneHistory history_of label_of names l s
      → get_elem? s.views i ≡ some v → get_elem? s.views j ≡ some w → IsPrefix v.seen w.seen
      ⊎ IsPrefix w.seen v.seen
  one_begins_the_other s i j v w r at there =
      let a = (r.each i v at).beginning.0 in
      let b = (r.each j w there).beginning.0 in
      dite (dec_le (length v.seen) (length w.seen))
      (λ le. inl (prefix-between v.seen w.seen r.history a b le))
      (λ more. inr (prefix-between w.seen v.seen r.history b a (omega arith)))

  pub apart : (s : State (Option T) (View E L)) (i j : ℕ) (v w : View E L)
      → OneHistory history_of label_of names l s
      → get_elem? s.views i ≡ some v → get_elem? s.views j ≡ some w → (i ≡ j → ⊥) → w.drawn ≡ true
      → entries_of names w.number v.mine ≡ []
  apart s i j v w r at there ne drawn = mine v.drawn refl (r.each i v at).own
    where
      mine : (b : Bool) → v.drawn ≡ b → MatchBool b (v.mine ≡ entries_of names v.number r.history)
          (v.mine ≡ []) → entries_of names w.number v.mine ≡ []
      mine true is own = ap (entries_of names w.number) own
          ∙ entries-apart names w.number v.number r.history
          (λ same. ne (r.numbers_differ i j v w w.number at there (inl (is, same))
          (inl (drawn, refl))))
      mine false is own = ap (entries_of names w.number) own
