-- Members of lists, one after the other.
use Rattle.std.proofs.Common.{◌≡◌, ◌⊎◌, inl, inr, zero, suc, List, [], ◌∷◌, refl, subst, arith}
use Rattle.std.specs.List.{Contains}

module _ {X : Type 0} where
  abbrev pub In : X → List X → Type 0
  In x [] = ⊥
  In x (y ∷ xs) = (y ≡ x) ⊎ In x xs

  pub contained : (xs : List X) (x : X) → In x xs → Contains xs x
  contained [] x is_in = absurd is_in
  contained (y ∷ xs) x (inl same) = subst (Contains (y ∷ xs)) same (0, omega arith, refl)
  contained (y ∷ xs) x (inr rest) = by (contained xs x rest) where
    by : Contains xs x → Contains (y ∷ xs) x
    by (k, below, is) = (suc k, omega arith, is)

  pub member : (xs : List X) (x : X) → Contains xs x → In x xs
  member [] x (k, below, is) = absurd (omega (arith, below))
  member (y ∷ xs) x (zero, below, is) = inl is
  member (y ∷ xs) x (suc k, below, is) = inr (member xs x (k, omega (arith, below), is))
