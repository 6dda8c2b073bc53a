-- Comment lines and empty lines (YAML 1.2.2, sections 6.4 and 6.6).
use Rattle.std.specs.Prelude.{◌≡◌, ℕ, suc, Bool, true, List, ◌∷◌, ◌+◌, ◌==◌, [], ◌++◌, length}
use Rattle.std.specs.List.{AllByRecursion, slice_split}
use Rattle.pl_base.specs.declared.place.FileKey.{FileKey}
use Rattle.pl_base.specs.declared.node.Node.{Node}
use Rattle.pl_base.specs.declared.node.NodePair.{NodePair}
use Rattle.pl_line.specs.Rows.{Row, rows_from, rows_of}
use Rattle.pl_line.specs.Left.{is_empty}
use Rattle.pl_yaml.specs.Reading.{Read}
use Rattle.pl_yaml.specs.Nodes.{Values, below, items, pairs, node}
use Rattle.pl_yaml.specs.Spells.{document, placed}
use Rattle.pl_yaml_laws.specs.Texts.{IsText, spelled}

-- a row of blanks, or of a comment behind blanks, read to its line's end
abbrev pub IsPassedOver : Row → Type 0
IsPassedOver row = (is_empty row ≡ true) × (row.whole ≡ true)

-- Before the first entry of a text such a row changes nothing but the numbers that the rows behind
-- it have,
abbrev pub PassedOverInDocuments : Type 0
PassedOverInDocuments = (file : FileKey) (row : Row) (rows : List Row) → IsPassedOver row
    → document file (row ∷ rows) ≡ document file rows

-- so that a text behind lines of that kind spells what its own rows spell, numbered on from theirs,
abbrev pub PassedOverInTexts : Type 0
PassedOverInTexts =
    (file : FileKey) (front text : List ℕ) → IsText (front ++ 10 ∷ text)
    → AllByRecursion IsPassedOver (rows_of (front ++ 10 ∷ []))
    → spelled file (front ++ 10 ∷ text)
    ≡ placed file (
    document file (rows_from (1 + length (rows_of front)) (slice_split (λ c. c == 10) text))
    )

-- nor where the value of a key or a dash is read on later lines,
abbrev pub PassedOverBeforeNodes : Type 0
PassedOverBeforeNodes =
    (file : FileKey) (depth : ℕ) (own : Bool) (begun row : Row) (rows : List Row) → IsPassedOver row
    → node file depth (below own begun) (row ∷ rows) ≡ node file depth (below own begun) rows

-- nor before the next entry of a sequence or of a mapping, behind those that were read.
abbrev pub PassedOverBeforeItems : Type 0
PassedOverBeforeItems =
    (entry : Row → List Row → Read Node) (parent column turns : ℕ) (before : List Node) (row : Row)
    (rows : List Row) → IsPassedOver row
    → items entry parent column (suc turns) before (row ∷ rows)
    ≡ items entry parent column (suc turns) before rows

abbrev pub PassedOverBeforePairs : Type 0
PassedOverBeforePairs =
    (file : FileKey) (values : Values) (column turns : ℕ) (before : List NodePair) (row : Row)
    (rows : List Row) → IsPassedOver row
    → pairs file values column (suc turns) before (row ∷ rows)
    ≡ pairs file values column (suc turns) before rows
