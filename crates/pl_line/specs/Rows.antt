-- A text as lines of characters (YAML 1.2.2, sections 5.1, 5.2, 5.4 to 5.6, 6.1 and 6.6). A
-- character is its Unicode scalar value, and columns count characters.
use Rattle.std.specs.Prelude.{ℕ, ◌+◌, ◌-◌, Bool, false, ◌==◌, ◌&&◌, not, nat_lt, List, [], ◌∷◌}
use Rattle.std.specs.Prelude.{length, take, drop, Option, Some, None, if◌then◌else◌}
use Rattle.std.specs.List.{slice_split, position_or_len, last_or}

-- What is left of a line from a column on: the line's number, the column, and the characters that
-- can be read there. It is whole where they go to the line's end; else they end before a character
-- that no text may have.
pub record Row : Type 0 where
  pub number : ℕ
  pub column : ℕ
  pub text : List ℕ
  pub whole : Bool

-- a character below U+0020 other than tab, which no text may have
abbrev pub is_control : ℕ → Bool
is_control c = nat_lt c 32 && not (c == 9)

abbrev pub is_return : Option ℕ → Bool
is_return None = false
is_return (Some c) = c == 13

-- a carriage return before a line feed belongs to the line's break
abbrev pub without_return : List ℕ → List ℕ
without_return line = if is_return (last_or None line) then take (length line - 1) line else line

-- the characters behind the spaces that a line begins with
abbrev pub indented : ℕ → List ℕ → Bool → Row
indented number text whole =
    record {
      number = number;
      column = position_or_len (λ c. not (c == 32)) text + 1;
      text = drop (position_or_len (λ c. not (c == 32)) text) text;
      whole = whole;
    }

-- a line's row, up to its first character that no text may have
unfoldable pub row_at : ℕ → List ℕ → Row
row_at number line = indented number (take (position_or_len is_control line) line)
    (position_or_len is_control line == length line)

-- the rows of lines, the first of which has this number; behind the last line stands no break
abbrev pub rows_from : ℕ → List (List ℕ) → List Row
rows_from number [] = []
rows_from number (line ∷ []) = row_at number line ∷ []
rows_from number (line ∷ (next ∷ lines)) = row_at number (without_return line) ∷
    rows_from (number + 1) (next ∷ lines)

-- a byte order mark at the start is none of the text's characters
abbrev pub without_mark : List ℕ → List ℕ
without_mark [] = []
without_mark (c ∷ cs) = if c == 0xfeff then cs else c ∷ cs

-- the rows of a text's characters, cut at each line feed
abbrev pub rows_of : List ℕ → List Row
rows_of characters = rows_from 1 (slice_split (λ c. c == 10) (without_mark characters))

-- as many as there are lines and characters
abbrev pub size : List Row → ℕ
size [] = 0
size (row ∷ rows) = 1 + length row.text + size rows
