-- What is left of a line (YAML 1.2.2, sections 6.1 and 6.6).
use Rattle.std.specs.Prelude.{ℕ, ◌+◌, Bool, ◌==◌, ◌&&◌, ◌||◌, not, length, drop, Result, Ok, Err}
use Rattle.std.specs.Prelude.{if◌then◌else◌}
use Rattle.std.specs.List.{position_or_len}
use Rattle.pl_line.specs.declared.code.YamlCode.{YamlCode}
use Rattle.pl_line.specs.declared.code.YamlCode.TheVariants as codes_of
use Rattle.pl_line.specs.declared.line_fault.Fault.{Fault}
use Rattle.pl_line.specs.Rows.{Row}
use Rattle.pl_reading.specs.Bytes.{is_blank, begins_with}
use Rattle.pl_line.specs.Reading.{fault_behind}

-- the row behind so many characters and the blanks after them
unfoldable pub behind : ℕ → Row → Row
behind n row =
    record {
      number = row.number;
      column = row.column + (n + position_or_len (λ c. not (is_blank c)) (drop n row.text));
      text = drop (n + position_or_len (λ c. not (is_blank c)) (drop n row.text)) row.text;
      whole = row.whole;
    }

-- whether no tab stands among the blanks behind so many characters
abbrev pub spaces_only : ℕ → Row → Bool
spaces_only n row = position_or_len (λ c. not (c == 32)) (drop n row.text) == position_or_len
    (λ c. not (is_blank c)) (drop n row.text)

-- behind blanks there is no content on a line: its end, or a comment
abbrev pub is_done : Row → Bool
is_done row = length row.text == 0 || begins_with 35 row.text

-- a line is read to its end, unless a character stands there that no text may have
abbrev pub line_end : Row → Result Unit Fault
line_end row = if row.whole then Ok tt
    else Err (fault_behind codes_of.NoEntry (length row.text) row)

-- Why something isn't closed at the end of what can be read of a row: the line ends there, or a
-- character stands there that no text may have.
abbrev pub end_code : Bool → YamlCode
end_code whole = if whole then codes_of.Unclosed else codes_of.NoEntry

-- blanks alone, up to the line's end
abbrev pub is_bare : Row → Bool
is_bare row = length (behind 0 row).text == 0 && row.whole

-- a comment, behind blanks
abbrev pub is_comment : Row → Bool
is_comment row = begins_with 35 (behind 0 row).text

-- a line without content outside block scalars
abbrev pub is_empty : Row → Bool
is_empty row = is_bare row || is_comment row
