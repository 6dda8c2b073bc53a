-- The stage at a place, and one more of the keys that are looked at.
use Rattle.std.proofs.Common.{◌≡◌, ◌↔◌, ℕ, Bool, true, List, [], ◌∷◌, get_or, length, is_some}
use Rattle.std.proofs.Common.{sym, ap, ◌∙◌, subst, arith}
use Rattle.std.proofs.Common.{◌⊎◌, inl, inr, ⊎_elim}
use Rattle.std.specs.BTreeMap.{BTreeMap, IsOrdered as IsSorted, get, keys}
use Rattle.std.specs.List.{Contains}
use Rattle.std.proofs.lemmas.List.Elements.{All-contains}
use Rattle.std.proofs.lemmas.Map.Views.{btree_map_contains_key_iff}
use Rattle.pl_base.specs.Firsts.{IsFirstAt}
use Rattle.pl_base.specs.declared.resource.ResourceKey.{ResourceKey}
use Rattle.pl_locks.specs.Kept.{IsAbsent, IsOrdered}
use Rattle.pl_locks.specs.Locks.{GivesWay, IsAt}
use Rattle.pl_locks.specs.declared.contender.Contender.{Contender}
use Rattle.pl_lock_queues.specs.Queues.{GivesWayAt, Place, key_cmp, place_of}
use Rattle.pl_lock_queues.proofs.Finding.{its_own, its_place, there}
use Rattle.pl_lock_queues.proofs.Orders.{exact_keys, keys_total}
use Rattle.pl_lock_queues.proofs.Retained.{cons_cases}

-- the stage at a place is the only one there
pub one_there : (eligible : List Contender) (run position at : ℕ) (stage : Contender) →
    IsOrdered eligible → IsFirstAt (IsAt run position) eligible at →
    stage ≡ get_or eligible at stage → (later : Contender) (old new : Place → Type 0) →
    ((p : Place) → new p ↔ (old p ⊎ ((place_of stage ≡ p) × GivesWay stage later))) → (p : Place) →
    new p ↔ (old p ⊎ (((run, position) ≡ p) × GivesWayAt eligible later p))
one_there eligible run position at stage ordered first here later old new step p =
    let place = its_place eligible run position at stage ordered first here in (
      λ h. ⊎_elim (λ was. inl was) (λ (own, gives). inr (
        sym place ∙ own,
        (stage, there eligible run position at stage ordered first here, own, gives),
      )) ((step p).0 h),
      λ h. (step p).1 (⊎_elim (λ was. inl was) (λ (own, (x, in_x, x_at, gives)). inr (
        place ∙ own,
        subst (λ (y : Contender). GivesWay y later) (its_own eligible run position at stage ordered
            first here x in_x (x_at ∙ sym own)) gives,
      )) h),
    )

pub nobody_gives : (eligible : List Contender) (run position : ℕ) →
    IsAbsent run position eligible → (later : Contender) (old : Place → Type 0) → (p : Place) →
    old p ↔ (old p ⊎ (((run, position) ≡ p) × GivesWayAt eligible later p))
nobody_gives eligible run position absent later old p = (
  λ h. inl h,
  λ h. ⊎_elim (λ was. was) (λ (own, (x, in_x, x_at, gives)).
      absurd (All-contains (λ (one : Contender). IsAt run position one → ⊥) eligible x absent in_x
      (ap (λ (q : Place). q.0) (x_at ∙ sym own), ap (λ (q : Place). q.1) (x_at ∙ sym own)))) h,
)

-- ---- keys that are left

-- each key with a mark is among the keys
pub is_left : (marks : BTreeMap ResourceKey Bool) (left : List ResourceKey) →
    IsSorted key_cmp marks → left ≡ keys marks → (key : ResourceKey) →
    is_some (get key_cmp marks key) ≡ true → Contains left key
is_left marks left ordered is key some =
    subst (λ (l : List ResourceKey). Contains l key) (sym is)
    ((btree_map_contains_key_iff keys_total exact_keys marks key).0 some)

-- a key less is left
pub one_less : {X : Type 0} (own key : X) (left rest : List X) (P : X → Type 0) (Q : Type 0) → left ≡ own ∷ rest → P key → (P own → Q) → Contains left key ⊎ Q →
    Contains rest key ⊎ Q
one_less {X} own key left rest P Q is holds here before =
    ⊎_elim
    (λ in_left. ⊎_elim (λ e. inr (here (subst P (sym e) holds))) (λ later. inl later)
    (cons_cases own rest key (subst (λ (l : List X). Contains l key) is in_left)))
    (λ q. inr q) before

pub none_left : {X : Type 0} (key : X) (left : List X) (Q : Type 0) → left ≡ [] →
    Contains left key ⊎ Q → Q
none_left key left Q is before =
    ⊎_elim (λ (k, below, at). absurd (omega (arith, below, ap length is))) (λ q. q) before
