-- Blanks, digits, and the numbers and versions that bytes write.
use Rattle.std.specs.Prelude.{ℕ, zero, suc, ◌+◌, ◌-◌, ◌*◌, ◌^◌, Bool, true, false, List, [], ◌∷◌}
use Rattle.std.specs.Prelude.{length, drop, map, fold, take_while, Option, Some, None, ℤ, pos}
use Rattle.std.specs.Prelude.{neg_ℤ, nat_lt, nat_le, ◌==◌, ◌||◌, ◌&&◌, if◌then◌else◌}
use Rattle.std.specs.List.{prefix_len, list_all}
use Rattle.std.specs.Char.{is_ascii_digit}
use Rattle.std.specs.Str.Parse.{starts_with_minus, without_leading_sign}
use Rattle.pl_reading.specs.Bytes.{digits_of, number_of}

-- a space, a tab or a line feed
abbrev pub is_blank : ℕ → Bool
is_blank byte = (byte == 32) || ((byte == 9) || (byte == 10))

-- what stands behind the first bytes that pass the test
abbrev pub skip : (ℕ → Bool) → List ℕ → List ℕ
skip test bytes = drop (prefix_len test bytes) bytes

-- the number with its sign, where 64 bits hold it
abbrev pub signed : Bool → ℕ → Option ℤ
signed true number = if nat_le number (2 ^ 63) then Some (neg_ℤ (pos number)) else None
signed false number = if nat_lt number (2 ^ 63) then Some (pos number) else None

-- The number that a text is: 0 where it is empty, else blanks, a sign or none, digits and blanks.
unfoldable pub number_in : List ℕ → Option ℤ
number_in bytes =
    let body = skip is_blank bytes in
    let unsigned = without_leading_sign body in
    if length bytes == 0 then Some (pos 0)
    else if prefix_len is_ascii_digit unsigned == 0 then None
    else if length (skip is_blank (skip is_ascii_digit unsigned)) == 0
    then signed (starts_with_minus body) (number_of (digits_of unsigned))
    else None

-- the bytes begin with a dot and a digit
abbrev pub goes_on : List ℕ → Bool
goes_on [] = false
goes_on (dot ∷ []) = false
goes_on (dot ∷ byte ∷ bytes) = (dot == 46) && is_ascii_digit byte

-- the runs of digits that stand behind a run, at most so many, each behind a dot
unfoldable pub more_runs : ℕ → List ℕ → List (List ℕ)
more_runs zero bytes = []
more_runs (suc more) bytes =
    if goes_on bytes then digits_of (drop 1 bytes) ∷
    more_runs more (skip is_ascii_digit (drop 1 bytes)) else []

-- and what stands behind them
unfoldable pub behind_more : ℕ → List ℕ → List ℕ
behind_more zero bytes = bytes
behind_more (suc more) bytes =
    if goes_on bytes then behind_more more (skip is_ascii_digit (drop 1 bytes)) else bytes

-- The runs of digits that the bytes begin with, up to four, a dot between each two. The first may
-- be empty.
abbrev pub runs_of : List ℕ → List (List ℕ)
runs_of bytes = digits_of bytes ∷ more_runs 3 (skip is_ascii_digit bytes)

abbrev pub behind_runs : List ℕ → List ℕ
behind_runs bytes = behind_more 3 (skip is_ascii_digit bytes)

-- a version's segments are at most 2147483647
abbrev pub is_segment : ℕ → Bool
is_segment number = nat_le number 2147483647

abbrev pub segments_of : List ℕ → Option (List ℕ)
segments_of numbers = if list_all is_segment numbers then Some numbers else None

-- The version that a text is: two to four segments joined by dots.
unfoldable pub version_in : List ℕ → Option (List ℕ)
version_in bytes =
    if prefix_len is_ascii_digit bytes == 0 then None
    else if length (runs_of bytes) == 1 then None
    else if length (behind_runs bytes) == 0 then segments_of (map number_of (runs_of bytes))
    else None
