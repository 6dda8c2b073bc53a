-- The queues once a stage more is eligible, or one less.
use Rattle.std.proofs.Common.{◌≡◌, ◌==◌, ◌&&◌, ◌||◌, ◌↔◌, ◌≤◌, Bool, true, false, not}
use Rattle.std.proofs.Common.{List, [], ◌∷◌, arith, length, refl, sym, ap, ◌∙◌, subst, ◌⊎◌, inl, inr, ⊎_elim}
use Rattle.std.specs.BTreeMap.{BTreeMap}
use Rattle.std.specs.BTreeSet.{BTreeSet, contains}
use Rattle.std.specs.List.{Contains, list_any}
use Rattle.std.specs.Prelude.{IsTrue}
use Rattle.std.proofs.lemmas.Bool.{and_parts, eq-eqb, false_from_ne_true, false≢true, ne_eqb}
use Rattle.std.proofs.lemmas.List.Elements.{All-contains}
use Rattle.pl_base.specs.declared.resource.ResourceKey.{ResourceKey}
use Rattle.pl_lines.specs.Lines.{stands}
use Rattle.pl_locks.specs.Kept.{IsAbsent, IsOrdered, IsPutIn, without}
use Rattle.pl_locks.specs.Locks.{IsAt, IsSuperseded}
use Rattle.pl_locks.specs.declared.contender.Contender.{Contender}
use Rattle.pl_lock_queues.specs.Queues.{AreGivingWay, AreNamed, AreWaiting, GivesWayAt}
use Rattle.pl_lock_queues.specs.Queues.{IsSupersededAt, Place, is_free_at, is_here, is_named}
use Rattle.pl_lock_queues.specs.Queues.{is_named_at, key_cmp, name_cmp, place_cmp, place_of}
use Rattle.pl_lock_queues.specs.Queues.{waits_at, wants}
use Rattle.pl_lock_queues.specs.declared.names.StageName.{StageName}
use Rattle.pl_lock_queues.proofs.Bools.{back_again}
use Rattle.pl_lock_queues.proofs.GivingWay.{superseded_put, superseded_taken}
use Rattle.pl_lock_queues.proofs.Moving.{any_put, any_without, found}
use Rattle.pl_lock_queues.proofs.Orders.{same_place}

abbrev pub wants_no : Contender → Bool
wants_no one = length one.resources == 0

-- ---- nobody is at an absent stage's place

pub nobody_here : (t : Contender → Bool) (eligible : List Contender) (stage : Contender) →
    IsAbsent stage.run stage.position eligible →
    list_any (λ one. t one && is_here (place_of stage) one) eligible ≡ false
nobody_here t eligible stage absent =
    false_from_ne_true (list_any (λ one. t one && is_here (place_of stage) one) eligible) (λ some.
    let (one, there, h) = found (λ one. t one && is_here (place_of stage) one) eligible some in
    let (is, here) = and_parts (t one) (is_here (place_of stage) one) h in
    let same : place_of one ≡ place_of stage = same_place (place_of one) (place_of stage) here in
    All-contains (λ (x : Contender). IsAt stage.run stage.position x → ⊥) eligible one absent there
    (ap (λ (p : Place). p.0) same, ap (λ (p : Place). p.1) same))

pub nobody_waits : (eligible : List Contender) (lines : BTreeMap ResourceKey (BTreeSet Place))
    (free superseded : BTreeSet Place) (stage : Contender) →
    AreWaiting eligible lines free superseded → IsAbsent stage.run stage.position eligible →
    (key : ResourceKey) → stands key_cmp place_cmp lines key (place_of stage) ≡ false
nobody_waits eligible lines free superseded stage are absent key =
    are.waiting key (place_of stage) ∙ nobody_here (wants key) eligible stage absent

pub nobody_free : (eligible : List Contender) (lines : BTreeMap ResourceKey (BTreeSet Place))
    (free superseded : BTreeSet Place) (stage : Contender) →
    AreWaiting eligible lines free superseded → IsAbsent stage.run stage.position eligible →
    contains place_cmp free (place_of stage) ≡ false
nobody_free eligible lines free superseded stage are absent =
    are.idle (place_of stage)
    ∙ nobody_here wants_no eligible stage absent

-- what holds where the place isn't marked holds of another's place
pub elsewhere : (was : Place → Bool) (t : Bool) (stage : Contender) (p : Place) →
    was (place_of stage) ≡ false → (t && is_here p stage) ≡ true → was p ≡ false
elsewhere was t stage p none h =
    subst (λ (q : Place). was q ≡ false)
    (same_place (place_of stage) p (and_parts t (is_here p stage) h).1) none

-- what was put at a stage's place, where nothing was, and was taken away again
pub again : (was mid new : Place → Bool) (t : Bool) (stage : Contender) →
    was (place_of stage) ≡ false → ((p : Place) → mid p ≡ (was p || (t && is_here p stage))) →
    ((p : Place) → new p ≡ (mid p && not (t && is_here p stage))) → (p : Place) → new p ≡ was p
again was mid new t stage none put taken p =
    taken p ∙ ap (λ b. b && not (t && is_here p stage)) (put p)
    ∙ back_again (was p) (t && is_here p stage) (elsewhere was t stage p none)

-- ---- one more, and one less

module _ (t : Contender → Bool) (p : Place) (eligible : List Contender) (stage : Contender)
    (was now : Bool) (is_was : was ≡ list_any (λ one. t one && is_here p one) eligible) where
  pub any_more : (more : List Contender) → IsPutIn stage eligible more →
      now ≡ (was || (t stage && is_here p stage)) →
      now ≡ list_any (λ one. t one && is_here p one) more
  any_more more put is =
      is ∙ ap (λ b. b || (t stage && is_here p stage)) is_was
      ∙ sym (ap (list_any (λ one. t one && is_here p one)) put.is
      ∙ any_put (λ one. t one && is_here p one) eligible put.place stage)

  pub any_less : (left : List Contender) → IsOrdered eligible → Contains eligible stage →
      left ≡ without stage.run stage.position eligible →
      now ≡ (was && not (t stage && is_here p stage)) →
      now ≡ list_any (λ one. t one && is_here p one) left
  any_less left ordered there is_left is =
      is ∙ ap (λ b. b && not (t stage && is_here p stage)) is_was
      ∙ sym (ap (list_any (λ one. t one && is_here p one)) is_left
      ∙ any_without t eligible stage p ordered there)

module _ (eligible : List Contender) (lines : BTreeMap ResourceKey (BTreeSet Place))
    (free superseded : BTreeSet Place) (are : AreWaiting eligible lines free superseded) where
  pub admitted : (stage : Contender) (more : List Contender)
      (new_lines : BTreeMap ResourceKey (BTreeSet Place)) (new_free new_superseded : BTreeSet Place) →
      ((key : ResourceKey) (p : Place) → stands key_cmp place_cmp new_lines key p
      ≡ (stands key_cmp place_cmp lines key p || waits_at key p stage)) →
      ((p : Place) → contains place_cmp new_free p
      ≡ (contains place_cmp free p || is_free_at p stage)) →
      ((p : Place) → (contains place_cmp new_superseded p ≡ true)
      ↔ ((contains place_cmp superseded p ≡ true) ⊎ (GivesWayAt eligible stage p
      ⊎ ((place_of stage ≡ p) × IsSuperseded eligible stage)))) →
      IsPutIn stage eligible more → AreWaiting more new_lines new_free new_superseded
  admitted stage more new_lines new_free new_superseded waits idle gives put = record {
    waiting = λ key p. any_more (wants key) p eligible stage (stands key_cmp place_cmp lines key p)
        (stands key_cmp place_cmp new_lines key p) (are.waiting key p) more put (waits key p);
    idle = λ p. any_more wants_no p eligible stage (contains place_cmp free p)
        (contains place_cmp new_free p) (are.idle p) more put (idle p);
    giving_way = λ p. (
      λ h. (superseded_put eligible more stage put p).1
          (⊎_elim (λ was. inl ((are.giving_way p).0 was)) (λ some. inr some) ((gives p).0 h)),
      λ h. (gives p).1 (⊎_elim (λ was. inl ((are.giving_way p).1 was)) (λ some. inr some)
          ((superseded_put eligible more stage put p).0 h)),
    );
  }

  -- lines as before, however they were changed
  pub as_before : (new_lines : BTreeMap ResourceKey (BTreeSet Place))
      (new_free new_superseded : BTreeSet Place) →
      ((key : ResourceKey) (p : Place) → stands key_cmp place_cmp new_lines key p
      ≡ stands key_cmp place_cmp lines key p) →
      ((p : Place) → contains place_cmp new_free p ≡ contains place_cmp free p) →
      AreGivingWay eligible new_superseded → AreWaiting eligible new_lines new_free new_superseded
  as_before new_lines new_free new_superseded waits idle gives = record {
    waiting = λ key p. waits key p ∙ are.waiting key p;
    idle = λ p. idle p ∙ are.idle p;
    giving_way = gives;
  }

pub dismissed : (before eligible : List Contender) (stage : Contender)
    (lines new_lines : BTreeMap ResourceKey (BTreeSet Place))
    (free new_free superseded new_superseded : BTreeSet Place) → IsOrdered before →
    Contains before stage → eligible ≡ without stage.run stage.position before →
    AreWaiting before lines free superseded →
    ((key : ResourceKey) (p : Place) → stands key_cmp place_cmp new_lines key p
    ≡ (stands key_cmp place_cmp lines key p && not (waits_at key p stage))) →
    ((p : Place) → contains place_cmp new_free p
    ≡ (contains place_cmp free p && not (is_free_at p stage))) →
    ((p : Place) → (contains place_cmp new_superseded p ≡ true)
    ↔ (((contains place_cmp superseded p ≡ true) × (place_of stage ≡ p → ⊥))
    × ((stage.run ≤ p.0) ⊎ IsSupersededAt eligible p))) →
    AreWaiting eligible new_lines new_free new_superseded
dismissed before eligible stage lines new_lines free new_free superseded new_superseded ordered
    there is are waits idle gives = record {
      waiting = λ key p. any_less (wants key) p before stage (stands key_cmp place_cmp lines key p)
          (stands key_cmp place_cmp new_lines key p) (are.waiting key p) eligible ordered there is
          (waits key p);
      idle = λ p. any_less wants_no p before stage (contains place_cmp free p)
          (contains place_cmp new_free p) (are.idle p) eligible ordered there is (idle p);
      giving_way = λ p. (
        λ h. let ((was, apart), which) = (gives p).0 h in
            (superseded_taken before eligible stage is p).1 (((are.giving_way p).0 was, apart), which),
        λ h. let ((was, apart), which) = (superseded_taken before eligible stage is p).0 h in
            (gives p).1 (((are.giving_way p).1 was, apart), which),
      );
    }

-- the same of the lines by name
module _ (eligible : List Contender) (names new : BTreeMap StageName (BTreeSet Place))
    (are : AreNamed eligible names) (stage : Contender) where
  pub named_put : (more : List Contender) → IsPutIn stage eligible more →
      ((key : StageName) (p : Place) → stands name_cmp place_cmp new key p
      ≡ (stands name_cmp place_cmp names key p || is_named_at key p stage)) → AreNamed more new
  named_put more put named = λ key p. any_more (is_named key) p eligible stage
      (stands name_cmp place_cmp names key p) (stands name_cmp place_cmp new key p) (are key p)
      more put (named key p)

  pub named_taken : (left : List Contender) → IsOrdered eligible → Contains eligible stage →
      left ≡ without stage.run stage.position eligible →
      ((key : StageName) (p : Place) → stands name_cmp place_cmp new key p
      ≡ (stands name_cmp place_cmp names key p && not (is_named_at key p stage))) →
      AreNamed left new
  named_taken left ordered there is taken = λ key p. any_less (is_named key) p eligible stage
      (stands name_cmp place_cmp names key p) (stands name_cmp place_cmp new key p) (are key p)
      left ordered there is (taken key p)

-- ---- stages that want no resource

empty_is : {X : Type 0} (xs : List X) → length xs ≡ 0 → xs ≡ []
empty_is [] e = refl
empty_is (x ∷ xs) e = absurd (omega arith)

pub wants_none : (stage : Contender) → (IsTrue true ↔ (stage.resources ≡ [])) →
    (length stage.resources == 0) ≡ true
wants_none stage tells = eq-eqb (length stage.resources) 0 (ap length (tells.0 refl))

pub wants_some : (stage : Contender) → (IsTrue false ↔ (stage.resources ≡ [])) →
    (length stage.resources == 0) ≡ false
wants_some stage tells = ne_eqb (length stage.resources) 0
    (λ e. false≢true (tells.1 (empty_is stage.resources e)))
