-- Each item against those before it, where a loop over the items stops.
use Rattle.std.proofs.Common.{◌≡◌, ℕ, ◌+◌, ◌<◌, ◌≤◌, Bool, true, false, ◌&&◌, List, [], ◌∷◌}
use Rattle.std.proofs.Common.{◌++◌, length, get_or, take, drop, sym, ap, ◌∙◌}
use Rattle.std.proofs.lemmas.List.{drop_more, drop_all, take_more}
use Rattle.pl_limits.specs.Limits.{each_behind}

module _ {X : Type 0} (test : List X → X → Bool) (xs : List X) (i : ℕ) where
  -- so far each passed
  abbrev pub SoFar : Type 0
  SoFar = each_behind test [] xs ≡ each_behind test (take i xs) (drop i xs)

  pub ends : length xs ≤ i → SoFar → each_behind test [] xs ≡ true
  ends past so_far = so_far ∙ ap (each_behind test (take i xs)) (drop_all i xs past)

  module _ (x : X) (within : i < length xs) (is : x ≡ get_or xs i x) where
    here : SoFar → each_behind test [] xs ≡
        (test (take i xs) x && each_behind test (take i xs ++ x ∷ []) (drop (i + 1) xs))
    here so_far = so_far ∙ ap (each_behind test (take i xs))
        (drop_more xs i x within ∙ ap (λ y. y ∷ drop (i + 1) xs) (sym is))

    pub stops : SoFar → test (take i xs) x ≡ false → each_behind test [] xs ≡ false
    stops so_far fails = here so_far
        ∙ ap (λ b. b && each_behind test (take i xs ++ x ∷ []) (drop (i + 1) xs)) fails

    pub goes_on : SoFar → test (take i xs) x ≡ true → each_behind test [] xs ≡
        each_behind test (take (i + 1) xs) (drop (i + 1) xs)
    goes_on so_far passes = here so_far
        ∙ ap (λ b. b && each_behind test (take i xs ++ x ∷ []) (drop (i + 1) xs)) passes
        ∙ ap (λ ys. each_behind test ys (drop (i + 1) xs))
        (ap (λ y. take i xs ++ y ∷ []) is ∙ sym (take_more xs i x within))
