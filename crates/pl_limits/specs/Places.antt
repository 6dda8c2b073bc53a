-- The places of texts by their hashes.
use Rattle.std.specs.Prelude.{ℕ, zero, suc, ◌+◌, ◌*◌, ◌%◌, Bool, false, List, [], ◌∷◌}
use Rattle.std.specs.Prelude.{slice_get, Option, None}
use Rattle.std.specs.Option.{option_map_or}
use Rattle.pl_limits.specs.Limits.{are_distinct, same_text}

-- a hash with a number of four bytes more
abbrev pub mixed : ℕ → ℕ → ℕ
mixed told more = (16777619 * told + more) % 4294967296

-- four bytes as one number
abbrev pub word : ℕ → ℕ → ℕ → ℕ → ℕ
word a b c d = a + 256 * b + 65536 * c + 16777216 * d

-- a text's hash: four bytes at a time, and those that are left as one number
abbrev pub hash_from : ℕ → List ℕ → ℕ
hash_from told [] = told
hash_from told (a ∷ []) = mixed told (word a 0 0 0)
hash_from told (a ∷ b ∷ []) = mixed told (word a b 0 0)
hash_from told (a ∷ b ∷ c ∷ []) = mixed told (word a b c 0)
hash_from told (a ∷ b ∷ c ∷ d ∷ more) = hash_from (mixed told (word a b c d)) more

-- a text's hash, and its place in a table of so many
abbrev pub hash : List ℕ → ℕ
hash text = hash_from 0 text

abbrev pub place : ℕ → List ℕ → ℕ
place room text = hash text % room

-- that texts are apart: none of those that are left stands twice, and where none are left one does
abbrev pub are_apart : Option (List (List ℕ)) → Bool
are_apart left = option_map_or (are_distinct same_text) left false

-- the text of a number from 1 on; 0 is none
abbrev pub numbered : {X : Type 0} → List X → ℕ → Option X
numbered texts zero = None
numbered texts (suc at) = slice_get texts at
