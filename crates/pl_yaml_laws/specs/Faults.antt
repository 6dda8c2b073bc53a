-- The first fault of a text (the profile's rule: a fault's place is where reading forward can't go
-- on).
use Rattle.std.specs.Prelude.{◌≡◌, ℕ, ◌≤◌, Bool, false, ◌==◌, ◌&&◌, List, [], ◌∷◌, ◌++◌, length}
use Rattle.std.specs.List.{list_any}
use Rattle.pl_base.specs.declared.place.FileKey.{FileKey}
use Rattle.pl_line.specs.declared.code.YamlCode.{YamlCode}
use Rattle.pl_line.specs.Rows.{Row, rows_of}
use Rattle.pl_line.specs.Left.{is_bare}
use Rattle.pl_yaml.specs.Spells.{refused}
use Rattle.pl_yaml_laws.specs.Texts.{IsText, spelled}

-- A fault is told on a line of the text.
abbrev pub FaultsStandInTheText : Type 0
FaultsStandInTheText =
    (file : FileKey) (text : List ℕ) (code : YamlCode) (line column : ℕ) → IsText text
    → spelled file text ≡ refused file code line column
    → (1 ≤ line) × (line ≤ length (rows_of text))

-- whether the row of that number has blanks alone
abbrev pub is_blank_row : ℕ → List Row → Bool
is_blank_row line rows = list_any (λ row. row.number == line && is_bare row) rows

-- A fault on one of the lines before a line feed is the fault of every text that begins with these
-- lines, whatever stands behind them. Left out is a fault on a line of blanks alone: such a line
-- can be too long for the content of a block scalar that begins behind it.
abbrev pub FaultsAreFirst : Type 0
FaultsAreFirst =
    (file : FileKey) (front one two : List ℕ) (code : YamlCode) (line column : ℕ)
    → IsText (front ++ 10 ∷ one) → IsText (front ++ 10 ∷ two)
    → line ≤ length (rows_of front) → is_blank_row line (rows_of (front ++ 10 ∷ [])) ≡ false
    → spelled file (front ++ 10 ∷ one) ≡ refused file code line column
    → spelled file (front ++ 10 ∷ two) ≡ refused file code line column
