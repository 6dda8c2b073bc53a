-- Zones that are one offset all the year, in the first form of a zone's text: `UTC`, or a name of
-- three to six letters and hours. As in POSIX's TZ variable (IEEE Std 1003.1, XBD 8.3) the hours
-- count to the west, so that a `-` is ahead of UTC.
use Rattle.std.specs.Prelude.{ℕ, ℤ, pos, neg_ℤ, ◌+◌, ◌-◌, ◌*◌, ◌==◌, nat_eq, nat_le, ◌&&◌, List}
use Rattle.std.specs.Prelude.{[], ◌∷◌, length, drop, take_while, Option, Some, None, option_map}
use Rattle.std.specs.Prelude.{option_and_then, if◌then◌else◌, codes}
use Rattle.std.specs.Char.{is_ascii_digit, is_ascii_alphabetic}
use Rattle.std.specs.Cmp.Lexicographic.{pointwise}

-- the value of a digit
abbrev pub digit_of : ℕ → Option ℕ
digit_of byte = if is_ascii_digit byte then Some (byte - 48) else None

-- hours, if there are at most 24
abbrev pub at_most_a_day : ℕ → Option ℕ
at_most_a_day hours = if nat_le hours 24 then Some hours else None

-- the value of one digit, or of two where it is at most 24
abbrev pub hours_of : List ℕ → Option ℕ
hours_of [] = None
hours_of (ones ∷ []) = digit_of ones
hours_of (tens ∷ ones ∷ []) = option_and_then (λ ten. option_and_then (λ one. at_most_a_day (10 *
    ten + one)) (digit_of ones)) (digit_of tens)
hours_of (a ∷ b ∷ c ∷ more) = None

-- a clock that is so many hours behind UTC, and ahead of it, in seconds ahead of UTC
abbrev pub behind : ℕ → ℤ
behind hours = neg_ℤ (pos (3600 * hours))

abbrev pub ahead : ℕ → ℤ
ahead hours = pos (3600 * hours)

-- what stands behind a zone's name: hours, with at most one sign before them
abbrev pub signed_hours : List ℕ → Option ℤ
signed_hours [] = None
signed_hours (first ∷ rest) =
    if first == 45 then option_map ahead (hours_of rest)
    else (if first == 43 then option_map behind (hours_of rest)
    else option_map behind (hours_of (first ∷ rest)))

-- how many letters begin a text
abbrev pub letters_of : List ℕ → ℕ
letters_of text = length (take_while is_ascii_alphabetic text)

-- a text of the first form, as seconds ahead of UTC
unfoldable pub fixed_offset : List ℕ → Option ℤ
fixed_offset text =
    if pointwise nat_eq text (codes "UTC") then Some (pos 0)
    else (if nat_le 3 (letters_of text) && nat_le (letters_of text) 6
    then signed_hours (drop (letters_of text) text) else None)
