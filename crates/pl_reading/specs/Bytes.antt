-- Bytes and characters at the front of a text.
use Rattle.std.specs.Prelude.{ℕ, ◌+◌, ◌-◌, ◌*◌, Bool, false, ◌==◌, ◌||◌, List, [], ◌∷◌}
use Rattle.std.specs.Prelude.{fold, take_while}
use Rattle.std.specs.Char.{is_ascii_digit}

-- whether a text begins with that byte or character
abbrev pub begins_with : ℕ → List ℕ → Bool
begins_with c [] = false
begins_with c (first ∷ rest) = first == c

-- space and tab (YAML 1.2.2, section 6.1)
abbrev pub is_blank : ℕ → Bool
is_blank c = c == 32 || c == 9

-- the digits that the bytes begin with
abbrev pub digits_of : List ℕ → List ℕ
digits_of bytes = take_while is_ascii_digit bytes

-- the number that decimal digits write
abbrev pub number_of : List ℕ → ℕ
number_of digits = fold (λ number digit. number * 10 + (digit - 48)) 0 digits
