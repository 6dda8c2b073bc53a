-- What is left of a list, and of a set of places, where a test decides.
use Rattle.std.proofs.Common.{◌≡◌, ◌↔◌, ◌≤◌, zero, suc, Bool, true, false, List, [], ◌∷◌}
use Rattle.std.proofs.Common.{length, cond, refl, sym, ap, ◌∙◌, subst, arith, ◌⊎◌, inl, inr, ⊎_elim}
use Rattle.std.specs.BTreeMap.{is_at}
use Rattle.std.specs.BTreeSet.{BTreeSet, contains}
use Rattle.std.specs.List.{Contains, items_where_true}
use Rattle.std.specs.List.Retain.{IsFiltered, ReturnsInTurn}
use Rattle.std.specs.Prelude.{IsTrue}
use Rattle.std.proofs.lemmas.Bool.{false≢true}
use Rattle.std.proofs.lemmas.Map.Views.{btree_set_contains_iff}
use Rattle.pl_locks.specs.Locks.{IsSuperseded}
use Rattle.pl_locks.specs.declared.contender.Contender.{Contender}
use Rattle.pl_lock_queues.specs.Queues.{GivesWayAt, IsSupersededAt, Place, place_cmp, place_of}
use Rattle.pl_lock_queues.proofs.Orders.{exact_places, place_itself, places_total, same_place}

-- ---- lists

pub cons_cases : {X : Type 0} (x : X) (xs : List X) (y : X) → Contains (x ∷ xs) y →
    (x ≡ y) ⊎ Contains xs y
cons_cases x xs y (zero, below, is) = inl is
cons_cases x xs y (suc k, below, is) = inr (k, omega arith, is)

cons_first : {X : Type 0} (x : X) (xs : List X) (y : X) → x ≡ y → Contains (x ∷ xs) y
cons_first x xs y e = (0, omega arith, e)

cons_later : {X : Type 0} (x : X) (xs : List X) (y : X) → Contains xs y → Contains (x ∷ xs) y
cons_later x xs y (k, below, is) = (suc k, omega arith, is)

module _ {X F : Type 0} (R : F → X → Bool → F → Type 0) (P : X → Type 0) (f : F)
    (h : (x : X) (b : Bool) (g : F) → R f x b g → (IsTrue b ↔ P x) × (g ≡ f)) where
  abbrev Tells : List X → List X → X → Type 0
  Tells left xs y = Contains left y ↔ (Contains xs y × P y)

  by_test : (x y : X) (xs : List X) (bs : List Bool) (b : Bool) → (IsTrue b ↔ P x) →
      Tells (items_where_true bs xs) xs y → Tells (items_where_true (b ∷ bs) (x ∷ xs)) (x ∷ xs) y
  by_test x y xs bs true is tells = (
    λ c. ⊎_elim (λ e. (cons_first x xs y e, subst P e (is.0 refl)))
        (λ r. let (was, holds) = tells.0 r in (cons_later x xs y was, holds))
        (cons_cases x (items_where_true bs xs) y c),
    λ (c, holds). ⊎_elim (λ e. cons_first x (items_where_true bs xs) y e)
        (λ r. cons_later x (items_where_true bs xs) y (tells.1 (r, holds)))
        (cons_cases x xs y c),
  )
  by_test x y xs bs false is tells = (
    λ c. let (was, holds) = tells.0 c in (cons_later x xs y was, holds),
    λ (c, holds). ⊎_elim (λ e. absurd (false≢true (is.1 (subst P (sym e) holds))))
        (λ r. tells.1 (r, holds)) (cons_cases x xs y c),
  )

  in_turn : (bs : List Bool) (xs : List X) (q : F) → length bs ≡ length xs →
      ReturnsInTurn R f bs xs q → (y : X) → Tells (items_where_true bs xs) xs y
  in_turn [] [] q e t y = (
    λ (k, below, is). absurd (omega (arith, below)),
    λ ((k, below, is), holds). absurd (omega (arith, below)),
  )
  in_turn [] (x ∷ xs) q e t y = absurd (omega arith)
  in_turn (b ∷ bs) [] q e t y = absurd t
  in_turn (b ∷ bs) (x ∷ xs) q e t y =
      let one = h x b t.0 t.1 in
      by_test x y xs bs b one.0 (in_turn bs xs q (omega arith)
      (subst (λ (g : F). ReturnsInTurn R g bs xs q) one.1 t.2) y)

  pub retained : (xs ys : List X) → IsFiltered R f xs ys → (y : X) → Tells ys xs y
  retained xs ys k y = subst (λ (l : List X). Tells l xs y) (sym k.4) (in_turn k.0 xs k.1 k.2 k.3 y)

-- ---- sets of places

pub is_in : (places : BTreeSet Place) (place : Place) →
    (contains place_cmp places place ≡ true) ↔ Contains places.keys place
is_in places place = btree_set_contains_iff places_total exact_places places place

pub left_in : (old new : BTreeSet Place) (P : Place → Type 0) →
    ((place : Place) → Contains new.keys place ↔ (Contains old.keys place × P place)) →
    (place : Place) → (contains place_cmp new place ≡ true)
    ↔ ((contains place_cmp old place ≡ true) × P place)
left_in old new P tells place = (
  λ h. let (was, holds) = (tells place).0 ((is_in new place).0 h) in
      ((is_in old place).1 was, holds),
  λ (was, holds). (is_in new place).1 ((tells place).1 ((is_in old place).0 was, holds)),
)

-- one place more
pub put_in : (own : Place) (old new : BTreeSet Place) → ((place : Place) →
    contains place_cmp new place
    ≡ cond (is_at (place_cmp own) place) true (contains place_cmp old place)) → (place : Place) →
    (contains place_cmp new place ≡ true)
    ↔ ((contains place_cmp old place ≡ true) ⊎ (own ≡ place))
put_in own old new is place = by_place (is_at (place_cmp own) place) refl
  where
    by_place : (b : Bool) → is_at (place_cmp own) place ≡ b →
        (contains place_cmp new place ≡ true)
        ↔ ((contains place_cmp old place ≡ true) ⊎ (own ≡ place))
    by_place true at = (
      λ h. inr (same_place own place at),
      λ h. is place ∙ ap (λ b. cond b true (contains place_cmp old place)) at,
    )
    by_place false at =
        let same = is place ∙ ap (λ b. cond b true (contains place_cmp old place)) at in (
          λ h. inl (sym same ∙ h),
          λ h. ⊎_elim (λ was. same ∙ was)
              (λ e. absurd (false≢true (sym at
              ∙ subst (λ (p : Place). is_at (place_cmp own) p ≡ true) e (place_itself own)))) h,
        )

-- one place less
pub taken_out : (own : Place) (old new : BTreeSet Place) → ((place : Place) →
    contains place_cmp new place
    ≡ cond (is_at (place_cmp own) place) false (contains place_cmp old place)) → (place : Place) →
    (contains place_cmp new place ≡ true)
    ↔ ((contains place_cmp old place ≡ true) × (own ≡ place → ⊥))
taken_out own old new is place = by_place (is_at (place_cmp own) place) refl
  where
    by_place : (b : Bool) → is_at (place_cmp own) place ≡ b →
        (contains place_cmp new place ≡ true)
        ↔ ((contains place_cmp old place ≡ true) × (own ≡ place → ⊥))
    by_place true at =
        let none = is place ∙ ap (λ b. cond b false (contains place_cmp old place)) at in (
          λ h. absurd (false≢true (sym none ∙ h)),
          λ (was, apart). absurd (apart (same_place own place at)),
        )
    by_place false at =
        let same = is place ∙ ap (λ b. cond b false (contains place_cmp old place)) at in (
          λ h. (
            sym same ∙ h,
            λ e. false≢true (sym at
                ∙ subst (λ (p : Place). is_at (place_cmp own) p ≡ true) e (place_itself own)),
          ),
          λ (was, apart). same ∙ was,
        )

-- and where that rests on something
pub with_it : (own : Place) (among new : Place → Type 0) (Q : Type 0) → Q →
    ((p : Place) → new p ↔ (among p ⊎ (own ≡ p))) → (p : Place) →
    new p ↔ (among p ⊎ ((own ≡ p) × Q))
with_it own among new Q q tells p = (
  λ h. ⊎_elim (λ some. inl some) (λ here. inr (here, q)) ((tells p).0 h),
  λ h. (tells p).1 (⊎_elim (λ some. inl some) (λ here. inr here.0) h),
)

-- ---- those that give way

module _ (eligible : List Contender) (stage : Contender) (among : Place → Type 0) where
  -- those that gave way to the stage alone are of earlier runs
  pub only_superseded : (left : Place → Type 0) →
      ((p : Place) → IsSupersededAt eligible p → among p) →
      ((p : Place) → among p → IsSupersededAt eligible p ⊎ GivesWayAt eligible stage p) →
      ((p : Place) → left p ↔ (among p × ((stage.run ≤ p.0) ⊎ IsSupersededAt eligible p))) →
      (p : Place) → left p ↔ IsSupersededAt eligible p
  only_superseded left all only tells p = (
    λ h. let (some, which) = (tells p).0 h in
        ⊎_elim (λ le. ⊎_elim (λ it. it) (λ gives. absurd (later le gives)) (only p some))
        (λ it. it) which,
    λ it. (tells p).1 (all p it, inr it),
  )
    where
      later : stage.run ≤ p.0 → GivesWayAt eligible stage p → ⊥
      later le (x, in_x, at, gives) =
          let run : x.run ≡ p.0 = ap (λ (q : Place). q.0) at in omega (arith, gives.run, le, run)

  pub not_own : (IsSuperseded eligible stage → ⊥) → (p : Place) →
      among p ↔ (among p ⊎ ((place_of stage ≡ p) × IsSuperseded eligible stage))
  not_own stands p = (
    λ h. inl h,
    λ h. ⊎_elim (λ some. some) (λ own. absurd (stands own.1)) h,
  )

  pub all_three : (mid new : Place → Type 0) →
      ((p : Place) → mid p ↔ (among p ⊎ GivesWayAt eligible stage p)) →
      ((p : Place) → new p ↔ (mid p ⊎ ((place_of stage ≡ p) × IsSuperseded eligible stage))) →
      (p : Place) → new p ↔ (among p ⊎ (GivesWayAt eligible stage p
      ⊎ ((place_of stage ≡ p) × IsSuperseded eligible stage)))
  all_three mid new first next p = (
    λ h. ⊎_elim
        (λ some. ⊎_elim (λ was. inl was) (λ gives. inr (inl gives)) ((first p).0 some))
        (λ own. inr (inr own)) ((next p).0 h),
    λ h. (next p).1 (⊎_elim (λ was. inl ((first p).1 (inl was)))
        (λ some. ⊎_elim (λ gives. inl ((first p).1 (inr gives))) (λ own. inr own) some) h),
  )
