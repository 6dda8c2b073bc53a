-- What the code's lines are, as rows.
use Rattle.std.specs.Prelude.{◌≡◌, ◌<◌, ◌≤◌, ℕ, Bool, ◌==◌, List, [], ◌∷◌, length, take, chars}
use Rattle.std.specs.List.{slice_split, position_or_len}
use Rattle.pl_line.specs.declared.line.Line.{Line}
use Rattle.pl_line.specs.declared.first_line.FirstLine.{FirstLine}
use Rattle.pl_line.specs.declared.first_line.FirstLine.TheVariants.{Broken, Last}
use Rattle.pl_line.specs.Characters.{all_of}
use Rattle.pl_line.specs.Rows.{Row, is_control, without_return}

-- a line of the code, without where it lies in memory
abbrev pub row : Line → Row
row line = record {
  number = line.number;
  column = line.column;
  text = all_of line.text;
  whole =
      line.whole;
}

-- what can be read of a line, and whether that is all of it
abbrev pub IsRead : List ℕ → List ℕ → Bool → Type 0
IsRead line text whole = (text ≡ take (position_or_len is_control line) line) ×
    (whole ≡ (position_or_len is_control line == length line))

-- a text's first line, read as far as it can be, and what stands behind its break
abbrev pub IsFirst : List ℕ → FirstLine → Type 0
IsFirst text (Broken front whole behind) =
    (line : List ℕ) ×
    (slice_split (λ c. c == 10) text ≡ line ∷ slice_split (λ c. c == 10) (chars behind.now)) ×
    IsRead (without_return line) (all_of front) whole
    × (length (all_of front) < length text) × (length (chars behind.now) < length text)
IsFirst text (Last front whole) =
    (line : List ℕ) × (slice_split (λ c. c == 10) text ≡ line ∷ []) ×
    IsRead line (all_of front) whole × (length (all_of front) ≤ length text)
