-- The value of `--runs`: a number as its decimal digits spell it.
use Rattle.std.specs.Prelude.{ℕ, nat_le, nat_lt, Bool, true, not, ◌&&◌, ◌==◌, List, [], ◌∷◌, length}
use Rattle.std.specs.Prelude.{slice_index, Option, Some, None, if◌then◌else◌}
use Rattle.std.specs.Char.{digit_value}
use Rattle.std.specs.Str.Parse.{digits_value}

-- neither a sign nor a zero stands in front
abbrev pub is_plain : List ℕ → Bool
is_plain text = not (slice_index text 0 == 43) && not (slice_index text 0 == 48)

abbrev pub are_digits : List ℕ → Bool
are_digits [] = true
are_digits (digit ∷ more) = nat_lt (digit_value digit) 10 && are_digits more

-- decimal digits, at least one
abbrev pub is_numeral : List ℕ → Bool
is_numeral text = nat_lt 0 (length text) && are_digits text

-- how many runs may be rehearsed
abbrev pub within : ℕ → Option ℕ
within number = if nat_le number 4096 then Some number else None

-- 1 to 4096, in decimal digits of which the first isn't 0
unfoldable pub runs_in : List ℕ → Option ℕ
runs_in text = if is_plain text && is_numeral text then within (digits_value 10 text) else None
