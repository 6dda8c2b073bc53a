-- Turns of loops over places.
use Rattle.std.proofs.Common.{◌≡◌, ◌<◌, ◌≤◌, ◌+◌, ◌&&◌, ℕ, Bool, true, false, cond, List, [], ◌∷◌}
use Rattle.std.proofs.Common.{◌++◌, length, map, Option, Some, None, refl, sym, ap}
use Rattle.std.proofs.Common.{◌∙◌, subst, arith, ⊎_elim}
use Rattle.std.specs.List.{filter, filter_map, list_all, range_with_len, cons_option}
use Rattle.std.proofs.lemmas.Bool.{cases_lt}
use Rattle.std.proofs.lemmas.List.{append_assoc, append-nil, map-append}
use Rattle.std.proofs.lemmas.List.Elements.{filter-append, filter_map-append}
use Rattle.std.proofs.lemmas.List.Folds.{list_all-append, list_all_at}
use Rattle.std.proofs.lemmas.List.FromFn.{get_or-range_with_len, length-range_with_len}
use Rattle.pl_plan.specs.declared.plan.PlanStage.{PlanStage}
use Rattle.pl_results.proofs.Turns.{range_more}
use Rattle.pl_due.specs.declared.open_stages.Place.{Place}
use Rattle.pl_due.specs.Open.{Test, at_place, passing}
use Rattle.pl_due.specs.Scans.{IsFirstTrue}

more : (n : ℕ) → range_with_len 0 n ++ n ∷ [] ≡ range_with_len 0 (n + 1)
more n = range_more n (range_with_len 0 n) (range_with_len 0 n ++ n ∷ []) refl refl

-- ---- all places pass a test

pub all_more : (p : ℕ → Bool) (n : ℕ) → list_all p (range_with_len 0 n) ≡ true → p n ≡ true →
    list_all p (range_with_len 0 (n + 1)) ≡ true
all_more p n all one = ap (list_all p) (sym (more n))
    ∙ list_all-append p (range_with_len 0 n) (n ∷ [])
    ∙ ap (λ b. b && list_all p (n ∷ [])) all ∙ ap (λ b. b && true) one

pub not_all : (p : ℕ → Bool) (n count : ℕ) → n < count → p n ≡ false →
    list_all p (range_with_len 0 count) ≡ false
not_all p n count below fails =
    let len : length (range_with_len 0 count) ≡ count = length-range_with_len 0 count in
    let same : 0 + n ≡ n = omega arith in
    list_all_at p (range_with_len 0 count) n 0 (omega (arith, len, below))
    (ap p (get_or-range_with_len 0 count n 0 below ∙ same) ∙ fails)

-- ---- what is made of places

pub made_some : {X : Type 0} (h : ℕ → Option X) (n : ℕ) (x : X) (old new : List X) →
    old ≡ filter_map h (range_with_len 0 n) → h n ≡ Some x → new ≡ old ++ x ∷ [] →
    new ≡ filter_map h (range_with_len 0 (n + 1))
made_some h n x old new so_far is grown =
    grown ∙ ap (λ ys. ys ++ x ∷ []) so_far
    ∙ ap (λ o. filter_map h (range_with_len 0 n) ++ cons_option o []) (sym is)
    ∙ sym (filter_map-append h (range_with_len 0 n) (n ∷ []))
    ∙ ap (filter_map h) (more n)

pub made_none : {X : Type 0} (h : ℕ → Option X) (n : ℕ) (old new : List X) →
    old ≡ filter_map h (range_with_len 0 n) → h n ≡ None → new ≡ old →
    new ≡ filter_map h (range_with_len 0 (n + 1))
made_none h n old new so_far is same =
    same ∙ so_far ∙ sym (append-nil (filter_map h (range_with_len 0 n)))
    ∙ ap (λ o. filter_map h (range_with_len 0 n) ++ cons_option o []) (sym is)
    ∙ sym (filter_map-append h (range_with_len 0 n) (n ∷ []))
    ∙ ap (filter_map h) (more n)

-- ---- stages that pass a test

module _ (test : Test) (stages : List PlanStage) (run n : ℕ) where
  passing_more : passing test stages run (n + 1)
      ≡ passing test stages run n ++ cond (test stages run n) (at_place run n ∷ []) []
  passing_more =
      ap (λ ns. map (at_place run) (filter (test stages run) ns)) (sym (more n))
      ∙ ap (map (at_place run)) (filter-append (test stages run) (range_with_len 0 n) (n ∷ []))
      ∙ map-append (at_place run) (filter (test stages run) (range_with_len 0 n))
      (filter (test stages run) (n ∷ []))
      ∙ ap (λ ps. passing test stages run n ++ ps) (made (test stages run n))
    where
      made : (b : Bool) →
          map (at_place run) (cond b (n ∷ []) []) ≡ cond b (at_place run n ∷ []) []
      made true = refl
      made false = refl

  -- one more is put behind those before it
  pub passed : (before old new : List Place) (b : Bool) → test stages run n ≡ b →
      old ≡ before ++ passing test stages run n →
      new ≡ old ++ cond b (at_place run n ∷ []) [] →
      new ≡ before ++ passing test stages run (n + 1)
  passed before old new b is so_far put =
      put ∙ ap (λ ps. ps ++ cond b (at_place run n ∷ []) []) so_far
      ∙ append_assoc before (passing test stages run n) (cond b (at_place run n ∷ []) [])
      ∙ ap (λ t. before ++ (passing test stages run n ++ cond t (at_place run n ∷ []) [])) (sym is)
      ∙ ap (λ ps. before ++ ps) (sym passing_more)

-- ---- the first place that passes

pub first_here : (test : ℕ → Bool) (n : ℕ) → test n ≡ true →
    ((at : ℕ) → at < n → test at ≡ false) → IsFirstTrue test (Some n)
first_here test n passes none = (passes, none)

pub none_yet : (test : ℕ → Bool) (n : ℕ) → test n ≡ false →
    ((at : ℕ) → at < n → test at ≡ false) → (at : ℕ) → at < n + 1 → test at ≡ false
none_yet test n fails none at below =
    ⊎_elim (none at) (λ rest. let e : n ≡ at = omega arith in
    subst (λ k. test k ≡ false) e fails) (cases_lt at n)

-- where none of so many passes, and none behind them does
pub none_at_all : (test : ℕ → Bool) (count : ℕ) → ((at : ℕ) → at < count → test at ≡ false) →
    ((at : ℕ) → count ≤ at → test at ≡ false) → IsFirstTrue test None
none_at_all test count before behind at = ⊎_elim (before at) (behind at) (cases_lt at count)
