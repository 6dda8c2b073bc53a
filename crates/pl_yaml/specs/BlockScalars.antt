-- Block scalars (YAML 1.2.2, sections 8.1.1 to 8.1.3).
use Rattle.std.specs.Prelude.{ℕ, ◌+◌, ◌-◌, max, Bool, false, ◌==◌, ◌&&◌, ◌||◌, not, nat_lt, List}
use Rattle.std.specs.Prelude.{[], ◌∷◌, ◌++◌, length, drop, replicate, Option, Some, None, Result}
use Rattle.std.specs.Prelude.{Ok, Err, if◌then◌else◌, encode_utf8_all}
use Rattle.pl_base.specs.declared.place.FileKey.{FileKey}
use Rattle.pl_base.specs.declared.node.Node.{Node}
use Rattle.pl_base.specs.declared.node.NodeBody.TheVariants.{Scalar}
use Rattle.pl_line.specs.declared.code.YamlCode.TheVariants as codes_of
use Rattle.pl_line.specs.declared.line_fault.Fault.{Fault}
use Rattle.pl_line.specs.Characters.{all_of}
use Rattle.pl_line.specs.Rows.{Row}
use Rattle.pl_reading.specs.Bytes.{is_blank, begins_with}
use Rattle.pl_line.specs.Reading.{fault_at}
use Rattle.pl_reading.specs.Steps.{◌>>=◌}
use Rattle.pl_line.specs.Left.{line_end, is_bare}
use Rattle.pl_line.specs.Trees.{node_at}
use Rattle.pl_yaml.specs.declared.header.Header.{Header}
use Rattle.pl_yaml.specs.declared.header.Chomping.{Chomping}
use Rattle.pl_yaml.specs.declared.header.Chomping.TheVariants as chompings
use Rattle.pl_yaml.specs.declared.block_line.BlockLine.{BlockLine}
use Rattle.pl_yaml.specs.Reading.{Read, has_row}
use Rattle.pl_yaml.specs.Heads.{is_marker}
use Rattle.pl_yaml.specs.Content.{closed}

-- 1 to 9
abbrev pub is_digit : ℕ → Bool
is_digit c = nat_lt 48 c && nat_lt c 58

-- `+` and `-`
abbrev pub is_sign : ℕ → Bool
is_sign c = c == 43 || c == 45

-- Behind `|` or `>` stand at most one digit and at most one sign, in either order.
abbrev pub are_indicators : ℕ → ℕ → Bool
are_indicators a b = is_digit a && is_sign b || is_sign a && is_digit b

abbrev pub indicators : List ℕ → List ℕ
indicators [] = []
indicators (a ∷ []) = if is_digit a || is_sign a then a ∷ [] else []
indicators (a ∷ (b ∷ cs)) = if are_indicators a b then a ∷ b ∷ [] else if is_digit a || is_sign a
    then a ∷ [] else []

abbrev pub digit : List ℕ → Option ℕ
digit [] = None
digit (c ∷ cs) = if is_digit c then Some (c - 48) else digit cs

abbrev pub chomping : List ℕ → Chomping
chomping [] = chompings.Clip
chomping (c ∷ cs) = if c == 45 then chompings.Strip else if c == 43 then chompings.Keep
    else chomping cs

abbrev pub header_with : Bool → List ℕ → Header
header_with is_folded marks = record {
  folded = is_folded;
  digit = digit marks;
  chomping =
      chomping marks;
  len = 1 + length marks;
}

-- the header that a row begins with
abbrev pub header_of : Row → Header
header_of row = header_with (begins_with 62 row.text) (indicators (drop 1 row.text))

-- the column of the first line that isn't blank, or 0 where there is none
unfoldable pub first_column : List Row → ℕ
first_column [] = 0
first_column (row ∷ rows) = if is_bare row then first_column rows else row.column

-- no blank line before that line goes past a column
unfoldable pub within_column : ℕ → List Row → Result Unit Fault
within_column column [] = Ok tt
within_column column (row ∷ rows) =
    if is_bare row then (if nat_lt column row.column then Err (fault_at codes_of.BadIndent row)
    else within_column column rows)
    else Ok tt

-- The column at which a block scalar's content begins, held by a block of that column. A digit
-- counts from the block's column, at the top from column 1. Without one, the first line that isn't
-- blank tells it, where it is deeper than the block; else there is no content.
abbrev pub found_column : ℕ → ℕ → List Row → Result (Option ℕ) Fault
found_column parent column rows = if nat_lt parent column
    then (within_column column rows >>= λ _. Ok (Some column)) else Ok None

abbrev pub content_column : ℕ → Option ℕ → List Row → Result (Option ℕ) Fault
content_column parent (Some n) rows = Ok (Some (max parent 1 + n))
content_column parent None rows = found_column parent (first_column rows) rows

-- a line of a block scalar: its characters, and whether a break follows
pub record TextLine : Type 0 where
  pub text : List ℕ
  pub broken : Bool

-- a line of the code, without where it lies in memory
abbrev pub text_line : BlockLine → TextLine
text_line line = record {
  text = replicate line.spaces 32 ++ all_of line.text;
  broken =
      line.broken;
}

-- A line of at least the content's indentation is content from that column on. Another one belongs
-- to the scalar only if it is blank, as an empty line.
abbrev pub reaches : Option ℕ → Row → Bool
reaches None row = false
reaches (Some column) row = not (nat_lt row.column column)

abbrev pub text_from : Option ℕ → Row → List ℕ
text_from None row = []
text_from (Some column) row = if nat_lt row.column column then []
    else replicate (row.column - column) 32 ++ row.text

abbrev pub line_from : Option ℕ → Row → Bool → TextLine
line_from column row is_broken = record { text = text_from column row; broken = is_broken }

-- a line of it is no marker of documents, and is read to its end
abbrev pub inside : Row → Result Unit Fault
inside row = if is_marker row then Err (fault_at codes_of.Documents row) else line_end row

abbrev pub line_before : Option ℕ → Row → Read (List TextLine) → List Row → Read (List TextLine)
line_before column row more rows = inside row >>= λ _. more >>=
    λ read. Ok (line_from column row (has_row rows) ∷ read.0, read.1)

-- the lines of a block scalar, up to the first other line
unfoldable pub lines : Option ℕ → List Row → Read (List TextLine)
lines column [] = Ok ([], [])
lines column (row ∷ rows) =
    if is_bare row || reaches column row then line_before column row (lines column rows) rows
    else Ok ([], row ∷ rows)

-- lines of a block scalar, read from rows one after the other
abbrev pub text_lines : Option ℕ → List Row → List TextLine
text_lines column [] = []
text_lines column (row ∷ rows) = line_from column row (has_row rows) ∷ text_lines column rows

abbrev pub is_void : TextLine → Bool
is_void line = length line.text == 0

-- the next line that isn't empty
unfoldable pub next_line : List TextLine → Option TextLine
next_line [] = None
next_line (line ∷ after) = if is_void line then next_line after else Some line

-- whether a line begins with a character that is no blank
abbrev pub is_flush : List ℕ → Bool
is_flush [] = false
is_flush (c ∷ cs) = not (is_blank c)

abbrev pub own_break : TextLine → List ℕ
own_break line = if line.broken then 10 ∷ [] else []

-- The break behind the last line that isn't empty, or behind an empty line that follows it: nothing
-- (`-`), what the file has there (`+`), or that of the last line alone.
abbrev pub last_break : Chomping → TextLine → List ℕ
last_break chompings.Strip line = []
last_break chompings.Keep line = own_break line
last_break chompings.Clip line = if is_void line then [] else own_break line

abbrev pub begins_void : List TextLine → Bool
begins_void [] = false
begins_void (line ∷ after) = is_void line

-- The break behind a line before others, the next of which isn't empty. `>` folds it between two
-- lines that begin with no blank: to a space, or to nothing where empty lines, whose breaks stay,
-- stand between.
abbrev pub inner_break : Bool → TextLine → List TextLine → TextLine → List ℕ
inner_break is_folded line after next = if is_folded && (is_flush line.text && is_flush next.text)
    then (if begins_void after then [] else 32 ∷ []) else 10 ∷ []

abbrev pub break_before : Bool → Chomping → TextLine → List TextLine → Option TextLine → List ℕ
break_before is_folded chomps line after None = last_break chomps line
break_before is_folded chomps line after (Some next) = inner_break is_folded line after next

-- the characters of a block scalar's lines
unfoldable pub block_text : Bool → Chomping → List TextLine → List ℕ
block_text is_folded chomps [] = []
block_text is_folded chomps (line ∷ after) = line.text ++
    (break_before is_folded chomps line after (next_line after) ++
    block_text is_folded chomps after)

-- the block scalar that begins at a row and is held by a block of that column, with the rows behind
-- it
abbrev pub scalar_with : FileKey → ℕ → Row → Header → List Row → Read Node
scalar_with file parent row header rows =
    closed header.len row
    >>= λ _. content_column parent header.digit rows
    >>= λ column. lines column rows
    >>=
    λ read. Ok (
      node_at file row
          (Scalar (encode_utf8_all (block_text header.folded header.chomping read.0))),
      read.1,
    )

unfoldable pub block : FileKey → ℕ → Row → List Row → Read Node
block file parent row rows = scalar_with file parent row (header_of row) rows
