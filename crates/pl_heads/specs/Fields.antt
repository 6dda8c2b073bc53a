-- The header fields of a head, looked up by name (RFC 9110, sections 5.1 and 11.6.2).
use Rattle.std.specs.Prelude.{◌≡◌, ℕ, ◌+◌, ◌≤◌, Bool, List, [], ◌∷◌, length, take, drop, map, codes}
use Rattle.std.specs.Prelude.{if◌then◌else◌, nat_eq}
use Rattle.std.specs.Char.{to_ascii_lowercase}
use Rattle.std.specs.Cmp.Lexicographic.{pointwise}

-- a name, and the value without the blanks around it
abbrev pub Named : Type 0
Named = List ℕ × List ℕ

-- two names are the same, ignoring the case of ASCII letters
abbrev pub same_name : List ℕ → List ℕ → Bool
same_name a b = pointwise nat_eq (map to_ascii_lowercase a) (map to_ascii_lowercase b)

-- the values of the fields of this name, in order
abbrev pub values_of : List ℕ → List Named → List (List ℕ)
values_of name [] = []
values_of name (field ∷ fields) =
    if same_name field.0 name then field.1 ∷ values_of name fields else values_of name fields

-- what stands before a bearer token (RFC 6750, section 2.1): one space ends it
abbrev pub bearer : List ℕ
bearer = codes "Bearer "

-- the bytes behind it; none where the value doesn't begin with it
abbrev pub behind_bearer : List ℕ → List ℕ
behind_bearer value = if pointwise nat_eq (take 7 value) bearer then drop 7 value else []

-- the token of the one value of Authorization; none where there isn't one
abbrev pub token_in : List (List ℕ) → List ℕ
token_in [] = []
token_in (value ∷ []) = behind_bearer value
token_in (one ∷ two ∷ more) = []

abbrev pub token_of : List Named → List ℕ
token_of fields = token_in (values_of (codes "authorization") fields)
