-- Turns of loops over lists.
use Rattle.std.proofs.Common.{◌≡◌, ◌<◌, ◌≤◌, ◌+◌, ℕ, Bool, true, false, cond, List, [], ◌∷◌, ◌++◌}
use Rattle.std.proofs.Common.{length, get_or, take, flat_map, sym, ap, ◌∙◌}
use Rattle.std.specs.List.{filter}
use Rattle.std.proofs.lemmas.List.{append-nil, take_all, take_more}
use Rattle.std.proofs.lemmas.List.Concat.{flat_map-cons}
use Rattle.std.proofs.lemmas.List.Elements.{filter-append}
use Rattle.std.proofs.lemmas.Grind.{flat_map-append}

-- ---- items that pass a test

module _ {X : Type 0} (p : X → Bool) (xs : List X) (i : ℕ) (x : X) (old new : List X)
    (within : i < length xs) (is : x ≡ get_or xs i x) (so_far : old ≡ filter p (take i xs)) where
  grown : (b : Bool) → p x ≡ b → filter p (take (i + 1) xs) ≡ old ++ cond b (x ∷ []) []
  grown b told =
      ap (filter p) (take_more xs i x within)
      ∙ ap (λ y. filter p (take i xs ++ y ∷ [])) (sym is)
      ∙ filter-append p (take i xs) (x ∷ [])
      ∙ ap (λ t. filter p (take i xs) ++ cond t (x ∷ []) []) told
      ∙ ap (λ ys. ys ++ cond b (x ∷ []) []) (sym so_far)

  pub kept_one : p x ≡ true → new ≡ old ++ x ∷ [] → new ≡ filter p (take (i + 1) xs)
  kept_one passes more = more ∙ sym (grown true passes)

  pub kept_other : p x ≡ false → new ≡ old → new ≡ filter p (take (i + 1) xs)
  kept_other fails same = same ∙ sym (append-nil old) ∙ sym (grown false fails)

pub all_kept : {X : Type 0} (p : X → Bool) (xs : List X) (i : ℕ) (kept : List X) →
    length xs ≤ i → kept ≡ filter p (take i xs) → kept ≡ filter p xs
all_kept p xs i kept past so_far = so_far ∙ ap (filter p) (take_all i xs past)

-- ---- lists that items give, one behind the other

pub lists_more : {X Y : Type 0} (f : X → List Y) (xs : List X) (i : ℕ) (x : X)
    (old new : List Y) → i < length xs → x ≡ get_or xs i x → old ≡ flat_map f (take i xs) →
    new ≡ old ++ f x → new ≡ flat_map f (take (i + 1) xs)
lists_more f xs i x old new within is so_far more =
    more ∙ ap (λ ys. ys ++ f x) so_far
    ∙ ap (λ ys. flat_map f (take i xs) ++ ys) (sym (flat_map-cons f x [] ∙ append-nil (f x)))
    ∙ sym (flat_map-append f (take i xs) (x ∷ []))
    ∙ ap (λ y. flat_map f (take i xs ++ y ∷ [])) is
    ∙ ap (flat_map f) (sym (take_more xs i x within))

pub all_lists : {X Y : Type 0} (f : X → List Y) (xs ys : List X) (i : ℕ) (made : List Y) →
    length xs ≤ i → xs ≡ ys → made ≡ flat_map f (take i xs) → made ≡ flat_map f ys
all_lists f xs ys i made past same so_far =
    so_far ∙ ap (flat_map f) (take_all i xs past ∙ same)
