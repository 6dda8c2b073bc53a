-- Plain scalars (YAML 1.2.2, sections 6.5 and 7.3.3).
use Rattle.std.specs.Prelude.{ℕ, ◌-◌, false, ◌==◌, nat_lt, List, [], ◌∷◌, ◌++◌, length, take, drop}
use Rattle.std.specs.Prelude.{replicate, Result, Ok, Err, if◌then◌else◌, encode_utf8_all}
use Rattle.pl_base.specs.declared.place.FileKey.{FileKey}
use Rattle.pl_base.specs.declared.node.Node.{Node}
use Rattle.pl_base.specs.declared.node.NodeBody.TheVariants.{Scalar}
use Rattle.pl_line.specs.declared.code.YamlCode.TheVariants as codes_of
use Rattle.pl_line.specs.declared.line_fault.Fault.{Fault}
use Rattle.pl_line.specs.Rows.{Row}
use Rattle.pl_line.specs.Reading.{fault_behind}
use Rattle.pl_reading.specs.Steps.{◌>>=◌}
use Rattle.pl_line.specs.Left.{line_end, is_bare, is_comment}
use Rattle.pl_line.specs.Scanning.{content_len, plain_len}
use Rattle.pl_reading.specs.Bytes.{begins_with}
use Rattle.pl_line.specs.Trees.{node_at}
use Rattle.pl_yaml.specs.Reading.{Read}
use Rattle.pl_yaml.specs.Content.{stands}

-- the first so many characters of a line, without the blanks behind them
abbrev pub part : ℕ → Row → List ℕ
part n row = take (content_len (take n row.text)) row.text

-- A line's break in a plain scalar is a space; with empty lines behind it, it is as many line feeds
-- as there are empty lines.
abbrev pub folded : ℕ → List ℕ
folded empty = if empty == 0 then 32 ∷ [] else replicate empty 10

-- how many characters of a line continue a plain scalar; a mapping's `:` can't stand there
abbrev pub continued_by : ℕ → Row → Result ℕ Fault
continued_by n row = if begins_with 58 (drop n row.text)
    then Err (fault_behind codes_of.NoEntry n row) else (line_end row >>= λ _. Ok n)

abbrev pub continued : Row → Result ℕ Fault
continued row = continued_by (plain_len row.whole false row.text) row

-- A line that continues a plain scalar adds the breaks before it, behind a line of that number, its
-- own characters, and what further lines add, unless a comment stands behind it.
abbrev pub adds : ℕ → Row → Read (List ℕ) → List Row → Read (List ℕ)
adds last row more rows =
    continued row
    >>= λ n. (if n == length row.text then more else Ok ([], rows))
    >>= λ read. Ok (folded (row.number - last - 1) ++ (part n row ++ read.0), read.1)

-- What further lines add to a plain scalar, which is held by a block of that column, behind its
-- line of that number. They are deeper than the block; lines of blanks between them are empty
-- lines; a comment ends the scalar.
unfoldable pub further : ℕ → ℕ → List Row → Read (List ℕ)
further parent last [] = Ok ([], [])
further parent last (row ∷ rows) =
    if is_bare row then further parent last rows
    else if is_comment row then Ok ([], row ∷ rows)
    else (stands row >>= λ _. if nat_lt parent row.column
    then adds last row (further parent row.number rows) rows else Ok ([], row ∷ rows))

-- characters behind bytes, as UTF-8
abbrev pub behind_bytes : List ℕ → Read (List ℕ) → Read (List ℕ)
behind_bytes bytes read = read >>= λ more. Ok (bytes ++ encode_utf8_all more.0, more.1)

-- what further lines add behind so many characters of a line: nothing where a comment ends it
abbrev pub behind_line : ℕ → Row → ℕ → List Row → Read (List ℕ)
behind_line parent row n rows = if length row.text == n then further parent row.number rows
    else Ok ([], rows)

-- a plain scalar that takes so many characters of its first line, with the rows behind it
abbrev pub word : FileKey → ℕ → Row → ℕ → List Row → Read Node
word file parent row n rows =
    line_end row
    >>= λ _. behind_line parent row n rows
    >>= λ read. Ok (node_at file row (Scalar (encode_utf8_all (part n row ++ read.0))), read.1)
