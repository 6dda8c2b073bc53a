-- Changes whose statements ran, one after the other.
use Rattle.std.proofs.Common.{Result, Ok, Err, OnOk, subst₂, ◌≡◌, ℕ, suc, ◌+◌, ◌<◌, List, [], ◌∷◌}
use Rattle.std.proofs.Common.{length, drop, get_or}
use Rattle.std.proofs.Common.{IsTrue, Option, Some, None, sym, ap, subst, ◌∙◌, add-one}
use Rattle.std.proofs.Common.{drop-cons}
use Rattle.sqlite.specs.Store.{Ghosts}
use Rattle.sqlite.specs.Held.{Held, state}
use Rattle.pl_base.specs.declared.row.Change.{Change}
use Rattle.pl_sqlkeeper.specs.Statements.{place_bytes, Changed, RanAll, Replaced}

next_is : (changes : List Change) (i : ℕ) (it : Change) → i < length changes →
    it ≡ get_or changes i it → drop i changes ≡ it ∷ drop (i + 1) changes
next_is changes i it within is =
    drop-cons changes i it within ∙ ((λ k. sym is k ∷ drop (suc i) changes) ∙
    ap (λ n. it ∷ drop n changes) (sym (add-one i)))

module _ {S : Type 0} (g : Ghosts S) where
  -- one change more ran
  pub ran_more : (changes : List Change) (i : ℕ) (it : Change) (first now next last : Held S) →
      i < length changes → it ≡ get_or changes i it → Changed g it now next
      → (RanAll g (drop i changes) now last → RanAll g changes first last)
      → RanAll g (drop (i + 1) changes) next last → RanAll g changes first last
  ran_more changes i it first now next last within is ran before rest =
      before (subst (λ cs. RanAll g cs now last) (sym (next_is changes i it within is))
      (next, ran, rest))

  pub replaced_open : (place : List ℕ) (body : Option (List ℕ)) (old new : Held S) →
      Replaced g place body old new → IsTrue (state g old).is_open
  replaced_open place None old new ran = ran.shown.was_open
  replaced_open place (Some body) old new (mid, taken, put) = taken.shown.was_open

  pub replaced_stays : (place : List ℕ) (body : Option (List ℕ)) (old new : Held S) →
      Replaced g place body old new → IsTrue (state g new).is_open
  replaced_stays place None old new ran = ran.shown.is_open
  replaced_stays place (Some body) old new (mid, taken, put) = put.shown.is_open

  pub replaced_inside : (place : List ℕ) (body : Option (List ℕ)) (old new : Held S) →
      Replaced g place body old new → IsTrue new.in_transaction
  replaced_inside place None old new ran = ran.shown.mode
  replaced_inside place (Some body) old new (mid, taken, put) = put.shown.mode

  pub was_open : (changes : List Change) (old new : Held S) → RanAll g changes old new →
      IsTrue (state g new).is_open → IsTrue (state g old).is_open
  was_open [] old new same o = subst (λ h. IsTrue (state g h).is_open) same o
  was_open (change ∷ changes) old new (mid, ran, rest) o =
      replaced_open _ change.body old mid ran

  pub is_inside : (changes : List Change) (old new : Held S) → RanAll g changes old new →
      IsTrue old.in_transaction → IsTrue new.in_transaction
  is_inside [] old new same inside = subst (λ h. IsTrue h.in_transaction) (sym same) inside
  is_inside (change ∷ changes) old new (mid, ran, rest) inside =
      is_inside changes mid new rest (replaced_inside _ change.body old mid ran)

  -- a row was replaced as the change says
  pub changed_to : {E : Type 0} (change : Change) (place body : List ℕ) (old new : Held S)
      (r : Result ℕ E) → place ≡ place_bytes change.table change.key → change.body ≡ Some body →
      OnOk r (Replaced g place (Some body) old new) → OnOk r (Changed g change old new)
  changed_to change place body old new (Ok count) is_place is_body ran =
      subst₂ (λ p b. Replaced g p b old new) is_place (sym is_body) ran
  changed_to change place body old new (Err e) is_place is_body ran = tt
