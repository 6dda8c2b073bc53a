-- Lines with content (YAML 1.2.2, sections 6.1, 6.6, 9.1.2 and 9.1.4).
use Rattle.std.specs.Prelude.{ℕ, Bool, false, List, [], ◌∷◌, length, drop, Result, Ok, Err, ◌==◌}
use Rattle.std.specs.Prelude.{◌&&◌, ◌||◌, if◌then◌else◌}
use Rattle.pl_line.specs.declared.code.YamlCode.TheVariants as codes_of
use Rattle.pl_line.specs.declared.line_fault.Fault.{Fault}
use Rattle.pl_line.specs.Rows.{Row}
use Rattle.pl_line.specs.Reading.{fault_at}
use Rattle.pl_reading.specs.Steps.{◌>>=◌}
use Rattle.pl_line.specs.Left.{behind, line_end, is_empty}
use Rattle.pl_line.specs.Scanning.{ends_word}
use Rattle.pl_reading.specs.Bytes.{begins_with}
use Rattle.pl_yaml.specs.Heads.{is_marker, is_start}

-- A line with content that is read next has no tab before its content, and is no marker of a
-- document.
abbrev pub stands : Row → Result Unit Fault
stands row =
    if begins_with 9 row.text then Err (fault_at codes_of.TabIndent row)
    else if is_marker row then Err (fault_at codes_of.Documents row)
    else Ok tt

-- the rows from the next line with content on
unfoldable pub content : List Row → Result (List Row) Fault
content [] = Ok []
content (row ∷ rows) = if is_empty row then (line_end row >>= λ _. content rows)
    else (stands row >>= λ _. Ok (row ∷ rows))

-- before any content, `---` alone is passed over, and `%` at column 1 would begin a directive
abbrev pub begins : Row → Result Unit Fault
begins row = if row.column == 1 && begins_with 37 row.text
    then Err (fault_at codes_of.Documents row) else stands row

unfoldable pub lead : List Row → Result (List Row) Fault
lead [] = Ok []
lead (row ∷ rows) = if is_empty row || is_start row then (line_end row >>= λ _. lead rows)
    else (begins row >>= λ _. Ok (row ∷ rows))

-- Behind so many characters of a line there is no content: its end, or a comment behind a blank.
abbrev pub is_closed : ℕ → Row → Bool
is_closed n row = length (behind n row).text == 0 || ends_word false (drop n row.text) &&
    begins_with 35 (behind n row).text

abbrev pub closed : ℕ → Row → Result Unit Fault
closed n row = if is_closed n row then line_end row
    else Err (fault_at codes_of.NoEntry (behind n row))
