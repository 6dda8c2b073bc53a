-- Turns of loops.
use Rattle.std.proofs.Common.{◌≡◌, ℕ, ◌+◌, ◌<◌, List, [], ◌∷◌, ◌++◌, length, take, get_or, map}
use Rattle.std.proofs.Common.{refl, sym, ap, ◌∙◌, arith}
use Rattle.std.specs.List.{enumerate_from, range_with_len}
use Rattle.std.proofs.lemmas.List.{append_assoc, length-take-le, map-append, take_more}
use Rattle.std.proofs.lemmas.List.FromFn.{map-range_with_len_more}
use Rattle.pl_checks.specs.declared.view.StepMark.{StepMark}
use Rattle.pl_plan.specs.declared.plan.PlanJob.{PlanJob}
use Rattle.pl_plan.specs.declared.plan.PlanStep.{PlanStep}
use Rattle.pl_views.specs.CheckViews.{step_mark}

-- items by their numbers, with one more
enumerate_push : {X : Type 0} (n : ℕ) (xs : List X) (x : X) →
    enumerate_from n (xs ++ x ∷ []) ≡ enumerate_from n xs ++ (n + length xs, x) ∷ []
enumerate_push n [] x = ap (λ k. (k, x) ∷ []) (omega arith)
enumerate_push n (y ∷ ys) x = ap (λ l. (n, y) ∷ l) (enumerate_push (n + 1) ys x
    ∙ ap (λ k. enumerate_from (n + 1) ys ++ (k, x) ∷ []) (omega arith))

-- what a function makes of the places of a list, with one more
pub range_push : {X : Type 0} (f : ℕ → X) (at : ℕ) (old new : List X) (x : X) →
    old ≡ map f (range_with_len 0 at) → new ≡ old ++ x ∷ [] → x ≡ f at →
    new ≡ map f (range_with_len 0 (at + 1))
range_push f at old new x so_far grown is =
    grown ∙ (λ i. so_far i ++ is i ∷ []) ∙ sym (map-range_with_len_more f 0 at at (omega arith))

-- what a function makes of items by their numbers, with one more
marks_push : {X Y : Type 0} (f : ℕ × X → Y) (n : ℕ) (xs : List X) (i : ℕ) (d : X)
    (front old new : List Y) (y : Y) → i < length xs →
    old ≡ front ++ map f (enumerate_from n (take i xs)) → new ≡ old ++ y ∷ [] →
    y ≡ f (n + i, get_or xs i d) → new ≡ front ++ map f (enumerate_from n (take (i + 1) xs))
marks_push {X} f n xs i d front old new y within so_far grown is =
    let long : length (take i xs) ≡ i = length-take-le i xs (omega arith) in
    let one : enumerate_from n (take (i + 1) xs) ≡
    enumerate_from n (take i xs) ++ (n + i, get_or xs i d) ∷ [] =
    ap (enumerate_from n) (take_more xs i d within)
    ∙ enumerate_push n (take i xs) (get_or xs i d)
    ∙ ap (λ k. enumerate_from n (take i xs) ++ (n + k, get_or xs i d) ∷ []) long in
    grown ∙ (λ j. so_far j ++ is j ∷ [])
    ∙ append_assoc front (map f (enumerate_from n (take i xs))) (f (n + i, get_or xs i d) ∷ [])
    ∙ ap (λ l. front ++ l) (sym (map-append f (enumerate_from n (take i xs))
    ((n + i, get_or xs i d) ∷ [])) ∙ ap (map f) (sym one))

-- the marks of a job's steps, with one more
pub mark_turn : (job : PlanJob) (steps : List PlanStep) (at number next : ℕ) (step : PlanStep)
    (front old new : List StepMark) (mark : StepMark) → at < length steps →
    (number ≡ at) × (old ≡ front ++ map (step_mark job) (enumerate_from 1 (take at steps))) →
    next ≡ number + 1 → step ≡ get_or steps at step → mark ≡ step_mark job (next, step) →
    new ≡ old ++ mark ∷ [] →
    (next ≡ at + 1) × (new ≡ front ++ map (step_mark job) (enumerate_from 1 (take (at + 1) steps)))
mark_turn job steps at number next step front old new mark within so_far follows is made grown =
    let from_one : next ≡ 1 + at = omega (arith, follows, so_far.0) in (
      omega (arith, follows, so_far.0),
      marks_push (step_mark job) 1 steps at step front old new mark within so_far.1 grown
          (made ∙ (λ j. step_mark job (from_one j, is j))),
    )
