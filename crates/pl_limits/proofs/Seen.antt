-- Numbers of texts at places, as the texts.
use Rattle.std.proofs.Common.{◌≡◌, ℕ, zero, suc, ◌<◌, List, [], ◌∷◌, map, replicate, length, get_or}
use Rattle.std.proofs.Common.{◌+◌, set, refl, ap, ◌∙◌, arith}
use Rattle.std.proofs.lemmas.Option.{slice_get-get_or}
use Rattle.std.specs.declared.option.Option.{Option}
use Rattle.std.specs.declared.option.Option.TheVariants.{None, Some}
use Rattle.pl_limits.specs.Places.{numbered}

module _ {X : Type 0} (texts : List X) where
  -- the texts at places that keep numbers
  abbrev pub seen : List ℕ → List (Option X)
  seen places = map (numbered texts) places

  pub seen_none : (n : ℕ) → seen (replicate n 0) ≡ replicate n None
  seen_none zero = refl
  seen_none (suc n) = ap (λ more. None ∷ more) (seen_none n)

  pub seen_at : (places : List ℕ) (p : ℕ) →
      get_or (seen places) p None ≡ numbered texts (get_or places p 0)
  seen_at [] p = refl
  seen_at (n ∷ places) zero = refl
  seen_at (n ∷ places) (suc p) = seen_at places p

  pub seen_set : (places : List ℕ) (p n : ℕ) →
      seen (set places p n) ≡ set (seen places) p (numbered texts n)
  seen_set [] p n = refl
  seen_set (m ∷ places) zero n = refl
  seen_set (m ∷ places) (suc p) n = ap (λ more. numbered texts m ∷ more) (seen_set places p n)

  pub seen_length : (places : List ℕ) → length (seen places) ≡ length places
  seen_length [] = refl
  seen_length (n ∷ places) = ap suc (seen_length places)

  -- the number of the i-th text is the text's
  pub seen_next : (i : ℕ) (d : X) → i < length texts → numbered texts (i + 1) ≡ Some (get_or texts i d)
  seen_next i d within =
      let next : i + 1 ≡ suc i = omega arith in
      ap (numbered texts) next ∙ slice_get-get_or texts i d within
