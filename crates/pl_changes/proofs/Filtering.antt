-- What passes a test, item after item.
use Rattle.std.proofs.Common.{◌≡◌, ℕ, ◌+◌, ◌≤◌, ◌<◌, Bool, true, false, cond, List, [], ◌∷◌, ◌++◌}
use Rattle.std.proofs.Common.{length}
use Rattle.std.proofs.Common.{map, get_or, drop, append_assoc, append-nil, refl, sym, ap, ◌∙◌}
use Rattle.std.specs.List.{filter}
use Rattle.std.proofs.lemmas.List.{at_drop_all, at_drop_more}

module _ {X Y : Type 0} (f : X → Y) where
  one_or_none : (b : Bool) (x : X) (xs : List X) →
      map f (cond b (x ∷ xs) xs) ≡ cond b (f x ∷ []) [] ++ map f xs
  one_or_none true x xs = refl
  one_or_none false x xs = refl

  -- what came so far, and what passes of the rest, are all that passes
  pub filtered_step : (p : X → Bool) (xs : List X) (i : ℕ) (x : X) (old new whole : List Y) →
      i < length xs → x ≡ get_or xs i x → old ++ map f (filter p (drop i xs)) ≡ whole →
      new ≡ old ++ cond (p x) (f x ∷ []) [] →
      new ++ map f (filter p (drop (i + 1) xs)) ≡ whole
  filtered_step p xs i x old new whole within at was is =
      let rest : map f (filter p (drop i xs)) ≡ map f (filter p (x ∷ drop (i + 1) xs)) =
      at_drop_more (λ ys. map f (filter p ys)) xs i x within ∙
      ap (λ (y : X). map f (filter p (y ∷ drop (i + 1) xs))) (sym at) in
      ap (λ (ys : List Y). ys ++ map f (filter p (drop (i + 1) xs))) is ∙
      (append_assoc old (cond (p x) (f x ∷ []) []) (map f (filter p (drop (i + 1) xs))) ∙
      (ap (λ (ys : List Y). old ++ ys)
      (sym (one_or_none (p x) x (filter p (drop (i + 1) xs)))) ∙
      (ap (λ (ys : List Y). old ++ ys) (sym rest) ∙ was)))

  -- behind the last item nothing is left
  pub filtered_end : (p : X → Bool) (xs : List X) (i : ℕ) (old whole : List Y) → length xs ≤ i →
      old ++ map f (filter p (drop i xs)) ≡ whole → old ≡ whole
  filtered_end p xs i old whole past was =
      sym (append-nil old) ∙
      (sym (at_drop_all (λ ys. old ++ map f (filter p ys)) xs i past) ∙ was)
