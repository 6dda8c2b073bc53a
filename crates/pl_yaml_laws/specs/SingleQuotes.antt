-- Scalars in single quotes (YAML 1.2.2, section 7.3.2).
use Rattle.std.specs.Prelude.{◌≡◌, ℕ, true, false, ◌==◌, List, [], ◌∷◌, ◌++◌, length, flat_map, Ok}
use Rattle.std.specs.Prelude.{if◌then◌else◌, encode_utf8_all}
use Rattle.pl_base.specs.declared.place.FileKey.{FileKey}
use Rattle.pl_base.specs.declared.node.NodeBody.TheVariants.{Scalar}
use Rattle.pl_line.specs.Rows.{Row}
use Rattle.pl_line.specs.Left.{behind}
use Rattle.pl_line.specs.Scanning.{ends_word}
use Rattle.pl_reading.specs.Bytes.{begins_with}
use Rattle.pl_line.specs.Trees.{node_at}
use Rattle.pl_line.specs.Quoted.{quoted}
use Rattle.pl_yaml.specs.Heads.{head_of}
use Rattle.pl_yaml.specs.Inline.{inline}
use Rattle.pl_yaml.specs.Keys.{key_by}
use Rattle.pl_yaml_laws.specs.Lines.{is_line, is_end}
use Rattle.pl_yaml_laws.specs.Texts.{IsText, spelled, scalar_alone}

-- between the quotes a quote stands twice, and every other character for itself
abbrev pub doubled : ℕ → List ℕ
doubled c = if c == 39 then 39 ∷ 39 ∷ [] else c ∷ []

abbrev pub single_quoted : List ℕ → List ℕ
single_quoted text = 39 ∷ (flat_map doubled text ++ 39 ∷ [])

-- At any column of a line, a text in single quotes reads as that text, and takes these characters
-- alone, whatever stands behind its closing quote but one more quote.
abbrev pub QuotedReadsAsItsText : Type 0
QuotedReadsAsItsText =
    (row : Row) (text rest : List ℕ) → row.text ≡ single_quoted text ++ rest
    → begins_with 39 rest ≡ false
    → quoted row ≡ Ok (encode_utf8_all text, length (single_quoted text))

-- So it does as a value on the line of its key or dash, and leaves the rows behind that line.
abbrev pub QuotedValueIsItsText : Type 0
QuotedValueIsItsText =
    (file : FileKey) (depth parent : ℕ) (row : Row) (rows : List Row) (text rest : List ℕ)
    → row.text ≡ single_quoted text ++ rest → row.whole ≡ true → is_end rest ≡ true
    → inline file depth parent row rows
    ≡ Ok (node_at file row (Scalar (encode_utf8_all text)), rows)

-- So it does as a key right before its `:`.
abbrev pub QuotedKeyIsItsText : Type 0
QuotedKeyIsItsText =
    (file : FileKey) (depth : ℕ) (row : Row) (text rest : List ℕ)
    → row.text ≡ single_quoted text ++ 58 ∷ rest → ends_word row.whole rest ≡ true
    → key_by file depth row (head_of row)
    ≡ Ok (record {
      start = row;
      text = encode_utf8_all text;
      left = behind 1 (behind (length (single_quoted text)) row);
    })

-- So it does as a whole text of one line.
abbrev pub QuotedTextIsItsText : Type 0
QuotedTextIsItsText =
    (file : FileKey) (text rest : List ℕ) → is_line text ≡ true → is_line rest ≡ true
    → is_end rest ≡ true
    → IsText (single_quoted text ++ rest)
    → spelled file (single_quoted text ++ rest) ≡ scalar_alone file text
