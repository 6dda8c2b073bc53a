-- The fields of kept rows, and the bytes that each is written as. Numbers stand with their most
-- significant byte first (RFC 1700, network byte order).
use Rattle.std.specs.Prelude.{◌≡◌, ℕ, ◌<◌, ◌^◌, Bool, true, List, [], ◌∷◌, ◌++◌, length}
use Rattle.std.specs.Prelude.{Option, Some, None, if◌then◌else◌, min}
use Rattle.std.specs.Fmt.{decimal}
use Rattle.std.specs.Int.{w32, w64, to_be_bytes}
use Rattle.std.specs.List.{flat_map, AllByRecursion}
use Rattle.std.specs.Str.{is_utf8}

-- a number: eight bytes
unfoldable pub number : ℕ → List ℕ
number n = to_be_bytes w64 n

-- a length: four bytes
unfoldable pub count : ℕ → List ℕ
count n = to_be_bytes w32 n

-- a flag: a byte 0 or 1
abbrev pub flag : Bool → List ℕ
flag is_set = (if is_set then 1 else 0) ∷ []

-- a text: its length, then its bytes
unfoldable pub text : List ℕ → List ℕ
text bytes = count (length bytes) ++ bytes

-- an option: a flag, then the field where there is one
abbrev pub option : {X : Type 0} → (X → List ℕ) → Option X → List ℕ
option field None = 0 ∷ []
option field (Some x) = 1 ∷ field x

-- a list: its length, then its items
unfoldable pub list : {X : Type 0} → (X → List ℕ) → List X → List ℕ
list field items = count (length items) ++ flat_map field items

-- a number as a text: its decimal digits, without a leading zero
abbrev pub decimal_text : ℕ → List ℕ
decimal_text n = text (decimal n)

-- what has a length of four bytes
abbrev pub IsShort : {X : Type 0} → List X → Type 0
IsShort items = length items < 2 ^ 32

-- UTF-8 text (RFC 3629) that has a length of four bytes
pub record IsText (bytes : List ℕ) : Type 0 where
  pub short : length bytes < 2 ^ 32
  pub utf8 : is_utf8 bytes ≡ true

-- a list that has a length of four bytes, whose items have a property
pub record IsListOf {X : Type 0} (P : X → Type 0) (items : List X) : Type 0 where
  pub short : length items < 2 ^ 32
  pub each : AllByRecursion P items

-- a number of bytes as far as a size in memory tells it
abbrev pub told_size : ℕ → ℕ
told_size len = min len 18446744073709551615
