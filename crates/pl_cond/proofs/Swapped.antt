-- Texts compared from either side.
use Rattle.std.proofs.Common.{◌≡◌, ℕ, List, [], ◌∷◌, refl, arith}
use Rattle.std.specs.Prelude.{nat_eq, ◌&&◌}
use Rattle.std.specs.Cmp.Lexicographic.{pointwise}
use Rattle.std.proofs.lemmas.Bool.Decides.{nat_tests}

nat_swap : (m n : ℕ) → nat_eq m n ≡ nat_eq n m
nat_swap m n = grind (arith, nat_tests)

pub pointwise_swap : (xs ys : List ℕ) → pointwise nat_eq xs ys ≡ pointwise nat_eq ys xs
pointwise_swap [] [] = refl
pointwise_swap [] (y ∷ ys) = refl
pointwise_swap (x ∷ xs) [] = refl
pointwise_swap (x ∷ xs) (y ∷ ys) = λ i. nat_swap x y i && pointwise_swap xs ys i
