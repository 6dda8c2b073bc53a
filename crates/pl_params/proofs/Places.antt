-- Where names first stand: from a list's end, one name after the other.
use Rattle.std.proofs.Common.{◌≡◌, ℕ, ◌+◌, ◌<◌, Bool, true, false, Some, None, cond, ltb, ◌||◌}
use Rattle.std.proofs.Common.{List, [], ◌∷◌, length, get_or, drop, refl, ap, sym, ◌∙◌}
use Rattle.std.specs.List.{find, list_any, position_from}
use Rattle.std.specs.List.{position_or_len}
use Rattle.std.specs.Option.{is_some}
use Rattle.std.specs.Prelude.{slice_get}
use Rattle.std.proofs.lemmas.List.Folds.{find_at}
use Rattle.std.proofs.lemmas.Iterator.Adapters.{position_from-zero}
use Rattle.std.proofs.lemmas.List.{at_drop_more}

pub place_before :
    {X : Type 0} (t : X → Bool) (xs : List X) (n at : ℕ) (x : X) → at ≡ n + 1 → n < length xs →
    x ≡ get_or xs n x
    → position_from t n (drop n xs) ≡ cond (t x) (Some n) (position_from t at (drop at xs))
place_before t xs n at x next within is =
    at_drop_more (position_from t n) xs n x within
    ∙ ap (λ y. cond (t y) (Some n) (position_from t (n + 1) (drop (n + 1) xs))) (sym is)
    ∙ ap (λ k. cond (t x) (Some n) (position_from t k (drop k xs))) (sym next)

-- a place is found exactly where an item passes
pub place_is_some :
    {X : Type 0} (t : X → Bool) (xs : List X) (k : ℕ) →
    is_some (position_from t k xs) ≡ list_any t xs
place_is_some t [] k = refl
place_is_some t (x ∷ xs) k =
    elim (t x) as (λ b. is_some (cond b (Some k) (position_from t (k + 1) xs)) ≡ b || list_any t xs) [
      | true ↦ refl
      | false ↦ place_is_some t xs (k + 1)
    ]

-- where no place is found, no item is
pub no_place :
    {X : Type 0} (t : X → Bool) (xs : List X) (k : ℕ) → position_from t k xs ≡ None →
    find t xs ≡ None
no_place t [] k e = refl
no_place t (x ∷ xs) k e =
    elim (t x) as (λ b. cond b (Some k) (position_from t (k + 1) xs) ≡ None →
    cond b (Some x) (find t xs) ≡ None) [
      | true ↦ λ found. cc
      | false ↦ λ none. no_place t xs (k + 1) none
    ] e

the_place : (b : Bool) (p at : ℕ) → cond b (Some p) None ≡ Some at → p ≡ at
the_place true p at e = cc
the_place false p at e = cc

-- the item at the place that is found is the first one
pub at_place :
    {X : Type 0} (t : X → Bool) (xs : List X) (at : ℕ) → position_from t 0 xs ≡ Some at →
    find t xs ≡ slice_get xs at
at_place t xs at e =
    find_at t xs ∙ ap (slice_get xs) (the_place (ltb (position_or_len t xs) (length xs))
    (position_or_len t xs) at (position_from-zero t xs ∙ e))
