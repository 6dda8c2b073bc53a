-- A hash by four bytes at a time.
use Rattle.std.proofs.Common.{◌≡◌, ℕ, ◌-◌, ◌≤◌, List, [], ◌∷◌, length, get_or, take, drop, ap, arith}
use Rattle.std.proofs.lemmas.List.{take_all}
use Rattle.pl_limits.specs.Places.{hash_from, mixed, word}

pub four : (told : ℕ) (left : List ℕ) → 4 ≤ length left →
    hash_from (mixed told (word (get_or left 0 0) (get_or left 1 0) (get_or left 2 0)
    (get_or left 3 0))) (take (length left - 4) (drop 4 left)) ≡ hash_from told left
four told [] long = absurd (omega (arith, long))
four told (a ∷ []) long = absurd (omega (arith, long))
four told (a ∷ b ∷ []) long = absurd (omega (arith, long))
four told (a ∷ b ∷ c ∷ []) long = absurd (omega (arith, long))
four told (a ∷ b ∷ c ∷ d ∷ more) long =
    ap (hash_from (mixed told (word a b c d)))
    (take_all (length (a ∷ b ∷ c ∷ d ∷ more) - 4) more (omega arith))
