-- How many of the first places pass a test.
use Rattle.std.proofs.Common.{◌≡◌, ◌+◌, ℕ, Bool, true, false, cond, ◌∷◌, [], ◌++◌, refl, ap, ◌∙◌}
use Rattle.std.proofs.Common.{arith}
use Rattle.std.specs.List.{count_by, range_with_len}
use Rattle.std.proofs.lemmas.List.Sums.{sum_by-append, sum_by-cons}
use Rattle.pl_due.specs.Below.pl_results.proofs.Turns.{range_more}

module _ (p : ℕ → Bool) (n old new : ℕ) (so_far : old ≡ count_by p (range_with_len 0 n)) where
  counted : (b : Bool) → p n ≡ b → new ≡ old + cond b 1 0 →
      new ≡ count_by p (range_with_len 0 (n + 1))
  counted b told more =
      let f : ℕ → ℕ = λ x. cond (p x) 1 0 in
      let whole = ap (count_by p)
      (range_more n (range_with_len 0 n) (range_with_len 0 n ++ n ∷ []) refl refl) in
      let parts = sum_by-append f (range_with_len 0 n) (n ∷ []) in
      let last = sum_by-cons f n [] in
      let one : Bool → ℕ = λ t. cond t 1 0 in
      let here = ap one told in
      omega (arith, more, so_far, whole, parts, last, here)

  pub counted_yes : p n ≡ true → new ≡ old + 1 → new ≡ count_by p (range_with_len 0 (n + 1))
  counted_yes passes more = counted true passes more

  pub counted_no : p n ≡ false → new ≡ old → new ≡ count_by p (range_with_len 0 (n + 1))
  counted_no fails same = counted false fails (same ∙ sum_nothing old)
    where
      sum_nothing : (m : ℕ) → m ≡ m + 0
      sum_nothing m = omega arith
