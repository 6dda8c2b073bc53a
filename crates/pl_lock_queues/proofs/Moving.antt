-- What a stage more, or one less, makes of the stages at places.
use Rattle.std.proofs.Common.{◌≡◌, ◌<◌, ◌&&◌, ◌||◌, Bool, true, false, cond, not, ℕ, zero, suc, List}
use Rattle.std.proofs.Common.{[], ◌∷◌, get_or, length, refl, sym, ap, ◌∙◌, arith}
use Rattle.std.specs.List.{Any, Contains, filter, insert, list_any, remove}
use Rattle.std.proofs.lemmas.Bool.{and_parts, false≢true}
use Rattle.std.proofs.lemmas.Bool.Decides.{nat_tests}
use Rattle.std.proofs.lemmas.List.Folds.{Any-from_list_any, list_any-from_Any}
use Rattle.std.proofs.lemmas.List.Sorted.{Contains-permutation, IsPermutation-insert}
use Rattle.std.proofs.lemmas.List.Sorted.{IsPermutation-sym, list_any-IsPermutation}
use Rattle.std.proofs.lemmas.Map.Views.{any-filter_same}
use Rattle.pl_locks.specs.Kept.{IsOrdered, is_at as is_stage_at, without}
use Rattle.pl_locks.specs.Locks.{IsAt}
use Rattle.pl_locks.specs.declared.contender.Contender.{Contender}
use Rattle.pl_locks.proofs.Ordered.{same_at}
use Rattle.pl_lock_queues.specs.Queues.{Place, is_here, place_of}
use Rattle.pl_lock_queues.proofs.Bools.{and_not, both_false, either_swap, not_both}
use Rattle.pl_lock_queues.proofs.Orders.{place_itself, same_place}

-- ---- members

pub in_more : {X : Type 0} (xs : List X) (i : ℕ) (y x : X) → Contains xs x →
    Contains (insert xs i y) x
in_more xs i y x (k, below, is) =
    Contains-permutation (y ∷ xs) (insert xs i y) x (IsPermutation-insert xs i y)
    (suc k, omega arith, is)

pub in_put : {X : Type 0} (xs : List X) (i : ℕ) (y : X) → Contains (insert xs i y) y
in_put xs i y =
    Contains-permutation (y ∷ xs) (insert xs i y) y (IsPermutation-insert xs i y)
    (0, omega arith, refl)

pub in_filter : {X : Type 0} (p : X → Bool) (xs : List X) (x : X) → Contains xs x →
    p x ≡ true → Contains (filter p xs) x
in_filter p [] x (k, below, is) h = absurd (omega arith)
in_filter p (y ∷ xs) x (zero, below, is) h =
    rw (ap p is ∙ h) (0, omega arith, is)
in_filter p (y ∷ xs) x (suc k, below, is) h =
    later (p y) (in_filter p xs x (k, omega arith, is) h)
  where
    later : (b : Bool) → Contains (filter p xs) x →
        Contains (cond b (y ∷ filter p xs) (filter p xs)) x
    later true (n, low, at) = (suc n, omega arith, at)
    later false there = there

pub any_of : {X : Type 0} (P : X → Type 0) (xs : List X) (x : X) → Contains xs x → P x → Any P xs
any_of P xs x (k, below, is) h = (k, x, below, is, h)

pub tested : {X : Type 0} (p : X → Bool) (xs : List X) (x : X) → Contains xs x → p x ≡ true →
    list_any p xs ≡ true
tested p xs x there h = list_any-from_Any p xs (any_of (λ y. p y ≡ true) xs x there h)

pub found : {X : Type 0} (p : X → Bool) (xs : List X) → list_any p xs ≡ true →
    (x : X) × Contains xs x × (p x ≡ true)
found p xs h = let (k, x, below, is, here) = Any-from_list_any p xs h in (x, (k, below, is), here)

-- ---- one more

pub any_put : {X : Type 0} (p : X → Bool) (xs : List X) (i : ℕ) (y : X) →
    list_any p (insert xs i y) ≡ (list_any p xs || p y)
any_put p xs i y =
    list_any-IsPermutation p (insert xs i y) (y ∷ xs)
    (IsPermutation-sym (y ∷ xs) (insert xs i y) (IsPermutation-insert xs i y))
    ∙ either_swap (p y) (list_any p xs)

-- ---- one less

pub any_removed : {X : Type 0} (p : X → Bool) (xs : List X) (i : ℕ) (d : X) → i < length xs →
    p (get_or xs i d) ≡ false → list_any p (remove xs i) ≡ list_any p xs
any_removed p [] i d within fails = absurd (omega arith)
any_removed p (x ∷ xs) zero d within fails = sym (ap (λ b. b || list_any p xs) fails)
any_removed p (x ∷ xs) (suc i) d within fails =
    ap (λ b. p x || b) (any_removed p xs i d (omega arith) fails)

pub same_stage : (stages : List Contender) (left right : Contender) → IsOrdered stages →
    Contains stages left → Contains stages right → place_of left ≡ place_of right → left ≡ right
same_stage stages left right ordered l r same = same_at stages left right ordered l r
    (ap (λ (p : Place). p.0) (sym same), ap (λ (p : Place). p.1) (sym same))

at_it : (run position : ℕ) (stage : Contender) → stage.run ≡ run → stage.position ≡ position →
    not (is_stage_at run position stage) ≡ false
at_it run position stage r p = grind (arith, nat_tests)

not_at_it : (run position : ℕ) (stage : Contender) → (IsAt run position stage → ⊥) →
    not (is_stage_at run position stage) ≡ true
not_at_it run position stage other = grind (arith, nat_tests)

pub apart_from : (one stage : Contender) → (place_of stage ≡ place_of one → ⊥) →
    not (is_stage_at one.run one.position stage) ≡ true
apart_from one stage apart =
    not_at_it one.run one.position stage (λ (r, p). apart (λ i. (r i, p i)))

pub not_apart : (one stage : Contender) → not (is_stage_at one.run one.position stage) ≡ true →
    place_of stage ≡ place_of one → ⊥
not_apart one stage passes same = false≢true (sym (at_it one.run one.position stage
    (ap (λ (p : Place). p.0) same) (ap (λ (p : Place). p.1) same)) ∙ passes)

module _ (t : Contender → Bool) (stages : List Contender) (stage : Contender) (place : Place)
    (ordered : IsOrdered stages) (there : Contains stages stage) where
  abbrev test : Contender → Bool
  test one = t one && is_here place one

  abbrev passes : Contender → Bool
  passes one = not (is_stage_at stage.run stage.position one)

  at_place : (one : Contender) → test one ≡ true → place_of one ≡ place
  at_place one h = same_place (place_of one) place (and_parts (t one) (is_here place one) h).1

  by_place : (b : Bool) → is_here place stage ≡ b →
      list_any test (filter passes stages) ≡ (list_any test stages && not (test stage))
  by_place true at =
      let here : place_of stage ≡ place = same_place (place_of stage) place at in
      any-filter_same test passes false
      (λ one h. at_it stage.run stage.position one
      (ap (λ (p : Place). p.0) (at_place one h ∙ sym here))
      (ap (λ (p : Place). p.1) (at_place one h ∙ sym here))) stages
      ∙ sym (not_both (list_any test stages) (test stage) (λ some.
      let (one, among, h) = found test stages some in
      let same : one ≡ stage = same_stage stages one stage ordered among there
      (at_place one h ∙ sym here) in
      ap test (sym same) ∙ h))
  by_place false at =
      any-filter_same test passes true
      (λ one h. apart_from stage one (λ same.
      false≢true (sym at ∙ ap (λ (p : Place). is_here p stage) (sym (at_place one h) ∙ same)
      ∙ place_itself (place_of stage)))) stages
      ∙ sym (and_not (list_any test stages) (test stage) (both_false (t stage)
      (is_here place stage) at))

  pub any_without : list_any (λ one. t one && is_here place one)
      (without stage.run stage.position stages)
      ≡ (list_any (λ one. t one && is_here place one) stages
      && not (t stage && is_here place stage))
  any_without = by_place (is_here place stage) refl
