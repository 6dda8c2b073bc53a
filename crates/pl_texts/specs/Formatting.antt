-- Patterns whose holes are filled with arguments.
use Rattle.std.specs.Prelude.{ℕ, zero, suc, ◌+◌, ◌-◌, ◌*◌, Bool, true, false, not, List, [], ◌∷◌}
use Rattle.std.specs.Prelude.{◌++◌, length, drop, fold, take_while, slice_get, Option, Some, None}
use Rattle.std.specs.Prelude.{Result, Err, ◌==◌, ◌||◌, if◌then◌else◌}
use Rattle.std.specs.Option.{option_map}
use Rattle.std.specs.Char.{is_ascii_digit}
use Rattle.pl_texts.specs.declared.fault.TextFault.{TextFault}
use Rattle.pl_texts.specs.declared.fault.TextFault.TheVariants.{Index}
use Rattle.pl_texts.specs.Bound.{bounded}
use Rattle.pl_reading.specs.Bytes.{begins_with, digits_of, number_of}

-- the digits of a number without a leading zero
abbrev pub is_plain_number : List ℕ → Bool
is_plain_number [] = false
is_plain_number (digit ∷ []) = true
is_plain_number (digit ∷ next ∷ digits) = not (digit == 48)

-- the argument of that number, counted from 0
abbrev pub argument_of : List (List ℕ) → List ℕ → Option (List ℕ)
argument_of arguments digits = if is_plain_number digits then slice_get arguments (number_of digits)
    else None

-- `{` is 123 and `}` is 125
abbrev pub is_brace : ℕ → Bool
is_brace byte = (byte == 123) || (byte == 125)

abbrev pub is_plain : ℕ → Bool
is_plain byte = not (is_brace byte)

-- What a hole is filled with, and how many bytes it has behind its `{`: digits and a `}`.
abbrev pub hole : List (List ℕ) → List ℕ → Option (List ℕ × ℕ)
hole arguments behind =
    let digits = digits_of behind in
    if begins_with 125 (drop (length digits) behind)
    then option_map (λ text. (text, length digits + 1)) (argument_of arguments digits)
    else None

-- What a brace begins, and how many bytes behind it belong to that: written twice it is one brace,
-- and else a `{` begins a hole.
abbrev pub braced : List (List ℕ) → ℕ → List ℕ → Option (List ℕ × ℕ)
braced arguments brace behind =
    if begins_with brace behind then Some (brace ∷ [], 1)
    else if brace == 123 then hole arguments behind
    else None

abbrev pub prefixed : List ℕ → Option (List ℕ) → Option (List ℕ)
prefixed text None = None
prefixed text (Some more) = Some (text ++ more)

-- a piece and what is made of the pattern behind it
abbrev pub followed : Option (List ℕ × ℕ) → (ℕ → Option (List ℕ)) → Option (List ℕ)
followed None rest = None
followed (Some piece) rest = prefixed piece.0 (rest piece.1)

-- What the pattern gives, once so many bytes were passed over: pieces that begin with a brace, and
-- any other byte as itself. None where a brace is out of place or its number has no argument.
unfoldable pub filled_behind : ℕ → List (List ℕ) → List ℕ → Option (List ℕ)
filled_behind passed arguments [] = Some []
filled_behind (suc passed) arguments (byte ∷ pattern) = filled_behind passed arguments pattern
filled_behind zero arguments (byte ∷ pattern) =
    if is_brace byte then followed (braced arguments byte pattern)
    (λ passed. filled_behind passed arguments pattern)
    else prefixed (byte ∷ []) (filled_behind zero arguments pattern)

abbrev pub filled : List (List ℕ) → List ℕ → Option (List ℕ)
filled arguments pattern = filled_behind 0 arguments pattern

-- a piece of the pattern, and the pattern behind it
abbrev pub cut_off : List ℕ → Option (List ℕ × ℕ) → Option (List ℕ × List ℕ)
cut_off behind None = None
cut_off behind (Some piece) = Some (piece.0, drop piece.1 behind)

-- what that gives
abbrev pub continued : List (List ℕ) → Option (List ℕ × List ℕ) → Option (List ℕ)
continued arguments None = None
continued arguments (Some parts) = prefixed parts.0 (filled arguments parts.1)

-- what a pattern gives, within the bound
abbrev pub answered : Option (List ℕ) → Result (List ℕ) TextFault
answered None = Err Index
answered (Some text) = bounded text

-- the pattern filled with the arguments
abbrev pub formatted : List (List ℕ) → List ℕ → Result (List ℕ) TextFault
formatted arguments pattern = answered (filled arguments pattern)
