-- Lists that are gone through until one of their items is found.
use Rattle.std.proofs.Common.{◌≡◌, ℕ, ◌+◌, ◌<◌, ◌≤◌, Bool, true, false, List, [], ◌∷◌, length}
use Rattle.std.proofs.Common.{drop, get_or, sym, ap, ◌∙◌}
use Rattle.std.specs.Prelude.{◌&&◌, ◌||◌}
use Rattle.std.specs.List.{list_any}
use Rattle.std.proofs.lemmas.List.{at_drop_all, at_drop_more}

pub both : (a b c : Bool) → a ≡ true → b ≡ c → (a && b) ≡ c
both a b c e f = ap (λ (x : Bool). x && b) e ∙ f

-- whether one of those from a place on passes
module _ {X : Type 0} (test : X → Bool) (xs : List X) (i : ℕ) where
  module _ (one d : X) (lt : i < length xs) (is : one ≡ get_or xs i d) where
    next : list_any test (drop i xs) ≡ (test one || list_any test (drop (i + 1) xs))
    next = at_drop_more (list_any test) xs i d lt ∙
        ap (λ (x : X). test x || list_any test (drop (i + 1) xs)) (sym is)

    pub hit : test one ≡ true → list_any test (drop i xs) ≡ true
    hit e = next ∙ ap (λ (b : Bool). b || list_any test (drop (i + 1) xs)) e

    pub miss : test one ≡ false → list_any test (drop (i + 1) xs) ≡ list_any test (drop i xs)
    miss e = sym (next ∙ ap (λ (b : Bool). b || list_any test (drop (i + 1) xs)) e)

  pub none : length xs ≤ i → list_any test (drop i xs) ≡ false
  none past = at_drop_all (list_any test) xs i past

-- the same of a test that goes by the place too, which is counted
module _ {X : Type 0} (any : ℕ → List X → Bool) (test : ℕ → X → Bool)
    (none_is : (n : ℕ) → any n [] ≡ false)
    (more_is : (n : ℕ) (x : X) (rest : List X) → any n (x ∷ rest) ≡ (test n x || any (n + 1) rest))
    (xs : List X) (i : ℕ) where
  module _ (at : ℕ) (here : at ≡ i) (one : X) (lt : i < length xs) (is : one ≡ get_or xs i one)
    where
      next_place : any i (drop i xs) ≡ (test at one || any (i + 1) (drop (i + 1) xs))
      next_place = at_drop_more (any i) xs i one lt ∙
          (ap (λ (x : X). any i (x ∷ drop (i + 1) xs)) (sym is) ∙
          (more_is i one (drop (i + 1) xs) ∙
          ap (λ (n : ℕ). test n one || any (i + 1) (drop (i + 1) xs)) (sym here)))

      pub hit_place : test at one ≡ true → any i (drop i xs) ≡ true
      hit_place e = next_place ∙ ap (λ (b : Bool). b || any (i + 1) (drop (i + 1) xs)) e

      pub miss_place : test at one ≡ false → any (i + 1) (drop (i + 1) xs) ≡ any i (drop i xs)
      miss_place e = sym (next_place ∙ ap (λ (b : Bool). b || any (i + 1) (drop (i + 1) xs)) e)

  pub no_place : length xs ≤ i → any i (drop i xs) ≡ false
  no_place past = at_drop_all (any i) xs i past ∙ none_is i
