-- How a key is found among a mapping's pairs. Any number that is made from a key's bytes serves.
use Rattle.std.specs.Prelude.{◌≡◌, ℕ, ◌+◌, ◌*◌, ◌^◌, ◌%◌, ◌/◌, Bool, true, false, nat_eq, nat_lt}
use Rattle.std.specs.Prelude.{List, [], ◌∷◌, length, Option, Some, None}
use Rattle.std.specs.List.{slice_get}
use Rattle.std.specs.Option.{option_map_or}
use Rattle.std.specs.Ordering.{nat_cmp}
use Rattle.std.specs.Cmp.Lexicographic.{slice_cmp, pointwise}
use Rattle.std.specs.BTreeMap as map
use Rattle.std.specs.BTreeSet as set
use Rattle.pl_base.specs.declared.node.NodePair.{NodePair}
use Rattle.pl_line.specs.declared.keys.Keys.{Keys}
use Rattle.pl_line.specs.declared.keys.Keys.TheVariants.{Few, Numbered, Ordered}
use Rattle.pl_line.specs.Trees.{has_key}

-- a key's number: its bytes as digits, up to 54 bits, of which the low half is spread over the high
-- bits
unfoldable pub number_from : ℕ → List ℕ → ℕ
number_from number [] = number
number_from number (byte ∷ bytes) = number_from ((number * 257 + byte) % (2 ^ 54)) bytes

unfoldable pub spread : ℕ → ℕ
spread number = number % 2 ^ 27 * 0x9e3779b97 % 2 ^ 36 * 2 ^ 27 + number / 2 ^ 27

abbrev pub number_of : List ℕ → ℕ
number_of key = spread (number_from 0 key)

-- whether that key stands there
abbrev pub stands_at : List NodePair → List ℕ → Option ℕ → Bool
stands_at pairs key None = false
stands_at pairs key (Some at) = option_map_or (λ pair. pointwise nat_eq pair.key key)
    (slice_get pairs at) false

-- whether a key is found
abbrev pub is_found : Keys → List NodePair → List ℕ → Bool
is_found Few pairs key = has_key key pairs
is_found (Numbered places) pairs key = stands_at pairs key (map.get nat_cmp places (number_of key))
is_found (Ordered keys) pairs key = set.contains (slice_cmp nat_cmp) keys key

-- each place is one of so many
abbrev pub is_within : ℕ → Option ℕ → Bool
is_within len place = option_map_or (λ at. nat_lt at len) place true

abbrev pub all_within : Keys → ℕ → ℕ → Bool
all_within Few len number = true
all_within (Numbered places) len number = is_within len (map.get nat_cmp places number)
all_within (Ordered keys) len number = true

-- numbers that find the keys of these pairs, and keys that are those of these pairs
abbrev pub IsNumbered : map.BTreeMap ℕ ℕ → List NodePair → Type 0
IsNumbered places pairs =
    ((key : List ℕ) → stands_at pairs key (map.get nat_cmp places (number_of key)) ≡
    has_key key pairs)
    × ((number : ℕ) → is_within (length pairs) (map.get nat_cmp places number) ≡ true)

abbrev pub IsOrdered : set.BTreeSet (List ℕ) → List NodePair → Type 0
IsOrdered keys pairs = (key : List ℕ) → set.contains (slice_cmp nat_cmp) keys key ≡
    has_key key pairs

abbrev pub IsKept : Keys → List NodePair → Type 0
IsKept keys pairs = ((key : List ℕ) → is_found keys pairs key ≡ has_key key pairs) ×
    ((number : ℕ) → all_within keys (length pairs) number ≡ true)
