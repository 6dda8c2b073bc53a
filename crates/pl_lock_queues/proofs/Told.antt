-- The least of those that give way.
use Rattle.std.proofs.Common.{◌≡◌, ◌<◌, ◌↔◌, ℕ, true, false, List, get_or, length, refl, sym, ap, ◌∙◌}
use Rattle.std.proofs.Common.{subst, arith}
use Rattle.std.specs.BTreeMap.{is_at}
use Rattle.std.specs.BTreeSet.{BTreeSet, IsLowerBound, contains}
use Rattle.std.specs.List.{Contains}
use Rattle.std.specs.Ordering.{is_gt, ordering_reverse}
use Rattle.std.specs.declared.cmp.Ordering.TheVariants.{Less}
use Rattle.std.proofs.lemmas.Bool.{false≢true}
use Rattle.std.proofs.lemmas.List.{get_or_default}
use Rattle.std.proofs.lemmas.List.Elements.{Contains-get_or}
use Rattle.pl_base.specs.Firsts.{IsFirstAt}
use Rattle.pl_locks.specs.Kept.{IsOrdered}
use Rattle.pl_locks.specs.Locks.{IsAt, IsSuperseded, Precedes}
use Rattle.pl_locks.specs.declared.contender.Contender.{Contender}
use Rattle.pl_lock_queues.specs.Queues.{AreGivingWay, IsSupersededAt, Place, place_cmp}
use Rattle.pl_lock_queues.specs.Queues.{place_of}
use Rattle.pl_lock_queues.proofs.Finding.{its_own, its_place}
use Rattle.std.specs.Prelude.{IsTrue}
use Rattle.pl_lock_queues.proofs.Moving.{found}
use Rattle.pl_lock_queues.proofs.Orders.{is_less, places_total}

-- no place of a set is before its least one
pub no_less_in : (places : BTreeSet Place) (least : Place) → IsLowerBound place_cmp places least →
    (p : Place) → contains place_cmp places p ≡ true → place_cmp p least ≡ Less → ⊥
no_less_in places least bound p there less =
    false≢true (sym (bound p there)
    ∙ ap is_gt (places_total.antisymm least p ∙ ap ordering_reverse less))

-- nothing is in a set that has no first place
pub never_in : (places : BTreeSet Place) → (IsTrue false ↔ (0 < length places.keys)) →
    (p : Place) → contains place_cmp places p ≡ true → ⊥
never_in places none p there =
    let (key, (i, low, at), same) = found (is_at (place_cmp p)) places.keys there in
    false≢true (none.1 (omega (arith, low)))

-- what gives way isn't before the least of the places that are written down
pub not_before : (eligible : List Contender) (superseded : BTreeSet Place) (place : Place) →
    AreGivingWay eligible superseded → IsLowerBound place_cmp superseded place → (x : Contender) →
    Contains eligible x → IsSuperseded eligible x → place_cmp (place_of x) place ≡ Less → ⊥
not_before eligible superseded place are least x there gives less =
    no_less_in superseded place least (place_of x)
    ((are (place_of x)).1 (x, there, refl, gives)) less

module _ (eligible : List Contender) (run position i : ℕ) (stage : Contender)
    (ordered : IsOrdered eligible) (first : IsFirstAt (IsAt run position) eligible i)
    (here : stage ≡ get_or eligible i stage) where
  pub none_before : ((x : Contender) → Contains eligible x → IsSuperseded eligible x →
      place_cmp (place_of x) (run, position) ≡ Less → ⊥) →
      (k : ℕ) (d : Contender) → k < i → IsSuperseded eligible (get_or eligible k d) → ⊥
  none_before least k d below gives =
      let x = get_or eligible k d in
      let within : k < length eligible = omega (arith, below, first.within) in
      let same : get_or eligible i d ≡ stage =
      get_or_default eligible i d stage first.within ∙ sym here in
      let earlier : Precedes x stage =
      subst (Precedes x) same (ordered k i d below first.within) in
      least x (Contains-get_or eligible k d within) gives
      (subst (λ (p : Place). place_cmp (place_of x) p ≡ Less)
      (its_place eligible run position i stage ordered first here)
      (is_less (place_of x) (place_of stage) earlier))

  pub gives_there : IsSupersededAt eligible (run, position) → IsSuperseded eligible stage
  gives_there (x, in_x, e, gives) = subst (IsSuperseded eligible)
      (its_own eligible run position i stage ordered first here x in_x e) gives
