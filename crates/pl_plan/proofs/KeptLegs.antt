-- Of two lists of which each makes the same, item by item.
use Rattle.std.proofs.Common.{◌≡◌, ℕ, ◌<◌, List, length, map, get_or, sym, ap, ◌∙◌, arith}
use Rattle.std.proofs.lemmas.List.{get_or-map, length-map}

module _ {A B C : Type 0} (f : A → C) (g : B → C) where
  pub same_length : (xs : List A) (ys : List B) → map f xs ≡ map g ys → length xs ≡ length ys
  same_length xs ys e = sym (length-map xs f) ∙ (ap length e ∙ length-map ys g)

  pub same_at : (xs : List A) (ys : List B) (i : ℕ) (x : A) (y : B) → map f xs ≡ map g ys →
      i < length ys → f (get_or xs i x) ≡ g (get_or ys i y)
  same_at xs ys i x y e within =
      let len : length xs ≡ length ys = same_length xs ys e in
      sym (get_or-map f xs i x (f x) (omega arith))
      ∙ (ap (λ (items : List C). get_or items i (f x)) e
      ∙ get_or-map g ys i y (f x) within)
