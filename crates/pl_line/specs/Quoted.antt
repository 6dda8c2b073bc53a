-- Quoted scalars on one line (YAML 1.2.2, sections 5.7, 7.3.1 and 7.3.2).
use Rattle.std.specs.Prelude.{◌≡◌, ℕ, zero, suc, ◌+◌, ◌*◌, ◌<◌, ◌≤◌, Bool, ◌==◌, ◌&&◌, ◌||◌, nat_lt}
use Rattle.std.specs.Prelude.{List, [], ◌∷◌, ◌++◌, length, take, drop, Option, Some, None, Result}
use Rattle.std.specs.Prelude.{Ok, Err, if◌then◌else◌}
use Rattle.std.specs.Char.{encode_utf8, digit_value}
use Rattle.pl_line.specs.declared.code.YamlCode.TheVariants as codes_of
use Rattle.pl_line.specs.declared.line_fault.Fault.{Fault}
use Rattle.pl_line.specs.declared.piece.Piece.{Piece}
use Rattle.pl_line.specs.declared.piece.Piece.TheVariants as pieces
use Rattle.pl_line.specs.declared.piece.Style.{Style}
use Rattle.pl_line.specs.declared.piece.Style.TheVariants as styles
use Rattle.pl_line.specs.Rows.{Row}
use Rattle.pl_line.specs.Reading.{fault_at, fault_behind}
use Rattle.pl_line.specs.Left.{end_code}
use Rattle.pl_reading.specs.Bytes.{begins_with}

-- the character that a backslash before this one spells
unfoldable pub named : ℕ → Option ℕ
named c =
    if c == 48 then Some 0  -- \0
    else if c == 97 then Some 7  -- \a
    else if c == 98 then Some 8  -- \b
    else if c == 116 then Some 9  -- \t
    else if c == 110 then Some 10  -- \n
    else if c == 118 then Some 11  -- \v
    else if c == 102 then Some 12  -- \f
    else if c == 114 then Some 13  -- \r
    else if c == 101 then Some 27  -- \e
    else if c == 32 then Some 32  -- backslash and space
    else if c == 34 then Some 34  -- \"
    else if c == 47 then Some 47  -- \/
    else if c == 92 then Some 92  -- \\
    else if c == 78 then Some 0x85  -- \N
    else if c == 95 then Some 0xa0  -- \_
    else if c == 76 then Some 0x2028  -- \L
    else if c == 80 then Some 0x2029  -- \P
    else None

-- the value of hexadecimal digits behind those of this value, where each is one
abbrev pub hex_value : ℕ → List ℕ → Option ℕ
hex_value high [] = Some high
hex_value high (c ∷ cs) = if nat_lt (digit_value c) 16 then hex_value (16 * high + digit_value c) cs
    else None

-- a Unicode scalar value: no surrogate, and at most U+10FFFF
abbrev pub is_scalar : ℕ → Bool
is_scalar c = nat_lt c 0xd800 || nat_lt 0xdfff c && nat_lt c 0x110000

abbrev pub scalar_only : Option ℕ → Option ℕ
scalar_only None = None
scalar_only (Some c) = if is_scalar c then Some c else None

-- an escape of so many characters, which spells that one or none
abbrev pub spelled : ℕ → Option ℕ → Piece
spelled n None = pieces.BadEscape
spelled n (Some c) = pieces.Character c n

-- behind `\x`, `\u` or `\U`, so many hexadecimal digits of a Unicode scalar value
unfoldable pub numbered : ℕ → List ℕ → Piece
numbered n cs = if nat_lt (length cs) n then pieces.BadEscape
    else spelled (n + 2) (scalar_only (hex_value 0 (take n cs)))

-- what a backslash before this text spells
unfoldable pub escape : List ℕ → Piece
escape [] = pieces.BadEscape
escape (c ∷ cs) =
    if c == 120 then numbered 2 cs
    else if c == 117 then numbered 4 cs
    else if c == 85 then numbered 8 cs
    else spelled 2 (named c)

-- What stands next in a quoted scalar. In single quotes, two quotes are one; in double quotes, a
-- backslash begins an escape.
unfoldable pub single : List ℕ → Piece
single [] = pieces.Open
single (c ∷ cs) =
    if c == 39 then (if begins_with 39 cs then pieces.Character 39 2 else pieces.Close)
    else pieces.Character c 1

unfoldable pub double : List ℕ → Piece
double [] = pieces.Open
double (c ∷ cs) =
    if c == 34 then pieces.Close
    else if c == 92 then escape cs
    else pieces.Character c 1

abbrev pub piece : Style → List ℕ → Piece
piece styles.Single cs = single cs
piece styles.Double cs = double cs

-- a piece takes no more than so many characters, and one that is a character takes some
abbrev pub Takes : ℕ → Piece → Type 0
Takes most (pieces.Character c n) = (0 < n) × (n ≤ most)
Takes most pieces.Close = 1 ≤ most
Takes most pieces.BadEscape = Unit {0}
Takes most pieces.Open = Unit {0}

-- what is left behind a piece that is a character
abbrev pub Leaves : List ℕ → List ℕ → Piece → Type 0
Leaves old new (pieces.Character c n) = new ≡ drop n old
Leaves old new _ = Unit {0}

-- what is neither a quote nor a backslash stands for itself in both
abbrev pub is_special : ℕ → Bool
is_special c = c == 39 || c == 34 || c == 92

-- A quoted scalar is one piece after the other, up to the closing quote. The text of those so far
-- is known, and how many characters they took. Each takes a character, so there are no more of them
-- than characters.
abbrev pub next_piece :
    (List ℕ → ℕ → Result (List ℕ × ℕ) Fault) → Row → List ℕ → ℕ → Piece → Result (List ℕ × ℕ) Fault
next_piece more row before at (pieces.Character c n) = more (before ++ encode_utf8 c) (at + n)
next_piece more row before at pieces.Close = Ok (before, at + 1)
next_piece more row before at pieces.BadEscape = Err (fault_behind codes_of.BadEscape at row)
next_piece more row before at pieces.Open =
    Err (fault_behind (end_code row.whole) (length row.text) row)

unfoldable pub pieces_of : Style → Row → ℕ → List ℕ → ℕ → Result (List ℕ × ℕ) Fault
pieces_of style row zero before at = Ok (before, at)
pieces_of style row (suc turns) before at = next_piece (pieces_of style row turns) row before at
    (piece style (drop at row.text))

-- The quoted scalar that a row begins with: its text, and how many characters it takes, with both
-- quotes.
unfoldable pub quoted : Row → Result (List ℕ × ℕ) Fault
quoted row =
    if begins_with 39 row.text then pieces_of styles.Single row (length row.text) [] 1
    else if begins_with 34 row.text then pieces_of styles.Double row (length row.text) [] 1
    else Err (fault_at codes_of.NoEntry row)
