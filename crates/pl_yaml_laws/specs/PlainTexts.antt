-- Plain scalars on one line (YAML 1.2.2, sections 5.3, 7.3.3 and 9.1.2).
use Rattle.std.specs.Prelude.{◌≡◌, ℕ, ◌+◌, Bool, true, false, ◌==◌, ◌&&◌, ◌||◌, not, List, [], ◌∷◌}
use Rattle.std.specs.Prelude.{◌++◌, length, Ok, if◌then◌else◌, codes, encode_utf8_all}
use Rattle.std.specs.List.{list_any}
use Rattle.pl_base.specs.declared.place.FileKey.{FileKey}
use Rattle.pl_base.specs.declared.node.NodeBody.TheVariants.{Scalar}
use Rattle.pl_line.specs.Rows.{Row, is_control}
use Rattle.pl_reading.specs.Bytes.{is_blank}
use Rattle.pl_line.specs.Left.{behind}
use Rattle.pl_line.specs.Scanning.{ends_word}
use Rattle.pl_line.specs.Trees.{node_at}
use Rattle.pl_yaml.specs.Heads.{head_of, is_marker}
use Rattle.pl_yaml.specs.Plain.{further}
use Rattle.pl_yaml.specs.Inline.{inline}
use Rattle.pl_yaml.specs.Keys.{key_by}
use Rattle.pl_yaml_laws.specs.Lines.{is_line, is_end}
use Rattle.pl_yaml_laws.specs.Texts.{IsText, spelled, scalar_alone}

-- neither a blank nor a control character, nor a byte order mark (ns-char)
abbrev pub is_visible : ℕ → Bool
is_visible c = not (is_blank c || is_control c || c == 0xfeff)

-- c-indicator
abbrev pub is_indicator : ℕ → Bool
is_indicator c = list_any (λ indicator. c == indicator) (codes "-?:,[]{}#&*!|>'\"%@`")

abbrev pub begins_visible : List ℕ → Bool
begins_visible [] = false
begins_visible (c ∷ cs) = is_visible c

-- The first character is no indicator, unless it is `-`, `?` or `:` before a visible one
-- (ns-plain-first).
abbrev pub may_begin : ℕ → List ℕ → Bool
may_begin c cs =
    is_visible c && (not (is_indicator c) || (c == 45 || c == 63 || c == 58) && begins_visible cs)

-- `#` stands behind a visible character, and `:` before one (ns-plain-char). Whether a blank stands
-- before them.
abbrev pub may_stand : Bool → ℕ → List ℕ → Bool
may_stand blank c cs =
    if c == 35 then not blank else if c == 58 then begins_visible cs else is_visible c

-- behind the first character: blanks and such, no blank last
abbrev pub may_follow : Bool → List ℕ → Bool
may_follow blank [] = not blank
may_follow blank (c ∷ cs) = (is_blank c || may_stand blank c cs) && may_follow (is_blank c) cs

-- ns-plain-one-line, outside flow collections
abbrev pub is_plain : List ℕ → Bool
is_plain [] = false
is_plain (c ∷ cs) = may_begin c cs && may_follow false cs

-- A plain text reads as itself as a value on the line of its key or dash, where the lines behind
-- don't continue it.
abbrev pub PlainValueIsItself : Type 0
PlainValueIsItself =
    (file : FileKey) (depth parent : ℕ) (row : Row) (rows : List Row) (text rest : List ℕ)
    → row.text ≡ text ++ rest → row.whole ≡ true → is_plain text ≡ true → is_end rest ≡ true
    → further parent row.number rows ≡ Ok ([], rows)
    → inline file depth parent row rows
    ≡ Ok (node_at file row (Scalar (encode_utf8_all text)), rows)

-- So it does as a key right before its `:`.
abbrev pub PlainKeyIsItself : Type 0
PlainKeyIsItself =
    (file : FileKey) (depth : ℕ) (row : Row) (text rest : List ℕ)
    → row.text ≡ text ++ 58 ∷ rest → row.whole ≡ true → is_plain text ≡ true
    → ends_word true rest ≡ true
    → key_by file depth row (head_of row)
    ≡ Ok (record {
      start = row;
      text = encode_utf8_all text;
      left = behind (length text + 1) row;
    })

-- So it does as a whole text of one line, unless it would be a marker of documents.
abbrev pub PlainTextIsItself : Type 0
PlainTextIsItself =
    (file : FileKey) (text rest : List ℕ) → is_plain text ≡ true → is_line rest ≡ true
    → is_end rest ≡ true
    → is_marker (record { number = 1; column = 1; text = text ++ rest; whole = true }) ≡ false
    → IsText (text ++ rest) → spelled file (text ++ rest) ≡ scalar_alone file text
