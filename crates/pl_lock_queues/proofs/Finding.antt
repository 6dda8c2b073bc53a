-- What is found at a place.
use Rattle.std.proofs.Common.{◌≡◌, ◌==◌, ◌&&◌, ◌↔◌, ℕ, Bool, false, List, get_or}
use Rattle.std.proofs.Common.{sym, ap, ◌∙◌, subst}
use Rattle.std.specs.BTreeMap.{BTreeMap}
use Rattle.std.specs.BTreeSet.{BTreeSet}
use Rattle.std.specs.List.{Contains}
use Rattle.std.specs.Prelude.{IsTrue}
use Rattle.std.proofs.lemmas.Bool.{and_from, and_parts, eq-eqb, eqb-true, false≢true}
use Rattle.std.proofs.lemmas.List.Elements.{All-contains}
use Rattle.pl_base.specs.Firsts.{IsFirstAt}
use Rattle.pl_base.specs.declared.resource.ResourceKey.{ResourceKey}
use Rattle.pl_lines.specs.Lines.{IsFirstIn, stands}
use Rattle.pl_locks.specs.Kept.{IsAbsent, IsOrdered}
use Rattle.pl_locks.specs.Locks.{IsAt}
use Rattle.pl_locks.specs.declared.contender.Contender.{Contender}
use Rattle.pl_lock_queues.specs.Queues.{Place, key_cmp, place_cmp, place_of}
use Rattle.pl_lock_queues.proofs.Moving.{same_stage}
use Rattle.pl_lock_queues.proofs.Starting.{one_first}

-- ---- the stage at a place

module _ (eligible : List Contender) (run position at : ℕ) (stage : Contender)
    (ordered : IsOrdered eligible) (first : IsFirstAt (IsAt run position) eligible at)
    (here : stage ≡ get_or eligible at stage) where
  pub there : Contains eligible stage
  there = (at, first.within, sym here)

  pub its_place : place_of stage ≡ (run, position)
  its_place =
      let (r, p) = subst (IsAt run position) (sym here) (first.here stage) in λ i. (r i, p i)

  pub its_own : (x : Contender) → Contains eligible x → place_of x ≡ (run, position) → x ≡ stage
  its_own x in_x e = same_stage eligible x stage ordered in_x there (e ∙ sym its_place)

  -- what holds of the stage holds of one at the place
  pub at_place : (P : Contender → Type 0) (is : Bool) → (IsTrue is ↔ P stage) →
      IsTrue is ↔ ((x : Contender) × Contains eligible x × (place_of x ≡ (run, position)) × P x)
  at_place P is tells = (
    λ h. (stage, there, its_place, tells.0 h),
    λ (x, in_x, e, holds). tells.1 (subst P (its_own x in_x e) holds),
  )

-- nobody is at a place where nobody was found
pub nobody : (P : Contender → Type 0) (eligible : List Contender) (run position : ℕ) →
    IsAbsent run position eligible → (is : Bool) → is ≡ false →
    IsTrue is ↔ ((x : Contender) × Contains eligible x × (place_of x ≡ (run, position)) × P x)
nobody P eligible run position absent is off = (
  λ h. absurd (false≢true (sym off ∙ h)),
  λ (x, in_x, e, holds). absurd (All-contains (λ (one : Contender). IsAt run position one → ⊥)
      eligible x absent in_x (ap (λ (p : Place). p.0) e, ap (λ (p : Place). p.1) e)),
)

-- ---- the first in a line

pub first_is : (lines : BTreeMap ResourceKey (BTreeSet Place)) (key : ResourceKey)
    (first place : Place) (is : Bool) → is ≡ ((first.0 == place.0) && (first.1 == place.1)) →
    IsFirstIn key_cmp place_cmp lines key first →
    IsTrue is ↔ IsFirstIn key_cmp place_cmp lines key place
first_is lines key first place is e found = (
  λ h. let (r, p) = and_parts (first.0 == place.0) (first.1 == place.1) (sym e ∙ h) in
      let same : first ≡ place =
      λ i. (eqb-true first.0 place.0 r i, eqb-true first.1 place.1 p i) in
      subst (IsFirstIn key_cmp place_cmp lines key) same found,
  λ other. let same = one_first lines key first place found other in
      e ∙ and_from (first.0 == place.0) (first.1 == place.1)
      (eq-eqb first.0 place.0 (ap (λ (p : Place). p.0) same))
      (eq-eqb first.1 place.1 (ap (λ (p : Place). p.1) same)),
)

pub none_first : (lines : BTreeMap ResourceKey (BTreeSet Place)) (key : ResourceKey)
    (place : Place) (is : Bool) → is ≡ false →
    ((p : Place) → stands key_cmp place_cmp lines key p ≡ false) →
    IsTrue is ↔ IsFirstIn key_cmp place_cmp lines key place
none_first lines key place is off none = (
  λ h. absurd (false≢true (sym off ∙ h)),
  λ first. absurd (false≢true (sym (none place) ∙ first.there)),
)
