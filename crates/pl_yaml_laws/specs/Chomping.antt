-- Chomping of block scalars (YAML 1.2.2, sections 8.1.1 and 8.1.2).
use Rattle.std.specs.Prelude.{◌≡◌, ℕ, min, Bool, true, false, ◌==◌, ◌||◌, List, [], ◌∷◌, ◌++◌}
use Rattle.std.specs.Prelude.{length, replicate, flat_map, Option, Some, None, Ok, Err, codes}
use Rattle.std.specs.Prelude.{if◌then◌else◌, encode_utf8_all}
use Rattle.std.specs.List.{list_all, last_or}
use Rattle.pl_base.specs.declared.place.FileKey.{FileKey}
use Rattle.pl_base.specs.declared.node.Node.{Node}
use Rattle.pl_base.specs.declared.node.NodeBody.TheVariants.{Scalar}
use Rattle.pl_line.specs.Rows.{Row}
use Rattle.pl_line.specs.Trees.{node_at}
use Rattle.pl_yaml.specs.Reading.{Read}
use Rattle.pl_yaml.specs.BlockScalars.{TextLine, is_digit, digit, content_column, lines, own_break}
use Rattle.pl_yaml.specs.BlockScalars.{block}
use Rattle.pl_yaml_laws.specs.Lines.{is_line, is_end}

-- a header that begins at a place
abbrev pub header_row : ℕ → ℕ → List ℕ → Row
header_row number column text =
    record { number = number; column = column; text = text; whole = true }

-- an indentation indicator, or none
abbrev pub is_indentation : List ℕ → Bool
is_indentation [] = true
is_indentation (c ∷ []) = is_digit c
is_indentation (c ∷ (d ∷ cs)) = false

abbrev pub is_feed : Option ℕ → Bool
is_feed None = false
is_feed (Some c) = c == 10

-- how many line feeds clipping keeps of those behind a content: one, where there is one, behind a
-- content that isn't empty
abbrev pub clipped : List ℕ → ℕ → ℕ
clipped content feeds = if length content == 0 then 0 else min 1 feeds

-- What is read of a block scalar with `-`, with neither, and with `+`. `-` gives its content, which
-- ends with no line feed. The others add line feeds alone, `+` all that stand there; what follows
-- is the same. If one is refused, all are, with the same fault.
abbrev pub DifferAtTheEnd : (List ℕ → Node) → Read Node → Read Node → Read Node → Type 0
DifferAtTheEnd scalar (Ok stripped) clipping keeping =
    (content : List ℕ) × (feeds : ℕ) × (stripped.0 ≡ scalar content)
    × (is_feed (last_or None content) ≡ false)
    × (clipping ≡ Ok (scalar (content ++ replicate (clipped content feeds) 10), stripped.1))
    × (keeping ≡ Ok (scalar (content ++ replicate feeds 10), stripped.1))
DifferAtTheEnd scalar (Err fault) clipping keeping = (clipping ≡ Err fault) × (keeping ≡ Err fault)

-- For literal and folded scalars, with an indentation indicator or without one, at any place, over
-- the same rows.
abbrev pub ChompingChangesTheEnd : Type 0
ChompingChangesTheEnd =
    (file : FileKey) (parent number column mark : ℕ) (indentation rest : List ℕ) (rows : List Row)
    → (mark == 124 || mark == 62) ≡ true → is_indentation indentation ≡ true → is_end rest ≡ true
    → list_all (λ row. is_line row.text) rows ≡ true
    → DifferAtTheEnd
    (λ text. node_at file (header_row number column []) (Scalar (encode_utf8_all text)))
    (block file parent (header_row number column (mark ∷ (indentation ++ codes "-" ++ rest))) rows)
    (block file parent (header_row number column (mark ∷ (indentation ++ rest))) rows)
    (block file parent (header_row number column (mark ∷ (indentation ++ codes "+" ++ rest))) rows)

-- a line, and the line feed that its break is
abbrev pub whole_line : TextLine → List ℕ
whole_line line = line.text ++ own_break line

-- `|+` keeps every line and every break.
abbrev pub KeepingKeepsAll : Type 0
KeepingKeepsAll =
    (file : FileKey) (parent number column : ℕ) (indentation rest : List ℕ) (rows left : List Row)
    (content : Option ℕ) (read : List TextLine)
    → is_indentation indentation ≡ true → is_end rest ≡ true
    → content_column parent (digit indentation) rows ≡ Ok content
    → lines content rows ≡ Ok (read, left)
    → block file parent (header_row number column (124 ∷ (indentation ++ codes "+" ++ rest))) rows
    ≡ Ok (
      node_at file (header_row number column [])
          (Scalar (encode_utf8_all (flat_map whole_line read))),
      left,
    )
