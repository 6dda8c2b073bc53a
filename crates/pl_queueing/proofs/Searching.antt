-- A search in lists that items give, one behind the other.
use Rattle.std.proofs.Common.{◌≡◌, ◌<◌, ◌≤◌, ◌+◌, ℕ, Bool, List, ◌++◌, length, drop, get_or}
use Rattle.std.proofs.Common.{flat_map, Option, Some, None, sym, ap, ◌∙◌}
use Rattle.std.specs.List.{find}
use Rattle.std.specs.Option.{option_or}
use Rattle.std.proofs.lemmas.List.{at_drop_more, at_drop_all}
use Rattle.std.proofs.lemmas.List.Folds.{find-append}

module _ {X Y : Type 0} (p : Y → Bool) (f : X → List Y) (xs : List X) (i : ℕ)
    (whole : Option Y) (so_far : whole ≡ find p (flat_map f (drop i xs))) where
  at_one : (x : X) → i < length xs → x ≡ get_or xs i x →
      whole ≡ option_or (find p (f x)) (find p (flat_map f (drop (i + 1) xs)))
  at_one x within is =
      so_far ∙ at_drop_more (λ rest. find p (flat_map f rest)) xs i x within
      ∙ ap (λ one. find p (f one ++ flat_map f (drop (i + 1) xs))) (sym is)
      ∙ find-append p (f x) (flat_map f (drop (i + 1) xs))

  pub found_here : (x : X) (y : Y) → i < length xs → x ≡ get_or xs i x →
      find p (f x) ≡ Some y → Some y ≡ whole
  found_here x y within is found =
      sym (at_one x within is
      ∙ ap (λ o. option_or o (find p (flat_map f (drop (i + 1) xs)))) found)

  pub found_later : (x : X) → i < length xs → x ≡ get_or xs i x → find p (f x) ≡ None →
      whole ≡ find p (flat_map f (drop (i + 1) xs))
  found_later x within is none =
      at_one x within is ∙ ap (λ o. option_or o (find p (flat_map f (drop (i + 1) xs)))) none

  pub found_nowhere : length xs ≤ i → None ≡ whole
  found_nowhere past = sym (so_far ∙ at_drop_all (λ rest. find p (flat_map f rest)) xs i past)
