-- Keys of block mappings (YAML 1.2.2, sections 7.4.2, 7.4.3 and 8.2.2).
use Rattle.std.specs.Prelude.{ℕ, ◌+◌, Bool, false, ◌==◌, ◌&&◌, nat_lt, List, [], ◌∷◌, Option, Some}
use Rattle.std.specs.Prelude.{None, Result, Ok, Err, if◌then◌else◌}
use Rattle.pl_base.specs.declared.place.FileKey.{FileKey}
use Rattle.pl_line.specs.declared.code.YamlCode.TheVariants as codes_of
use Rattle.pl_line.specs.declared.line_fault.Fault.{Fault}
use Rattle.pl_line.specs.Rows.{Row}
use Rattle.pl_line.specs.Lines.{row}
use Rattle.pl_line.specs.Reading.{fault_at, fault_behind}
use Rattle.pl_reading.specs.Steps.{◌>>=◌}
use Rattle.pl_line.specs.Left.{behind}
use Rattle.pl_line.specs.Scanning.{ends_word}
use Rattle.pl_reading.specs.Bytes.{begins_with}
use Rattle.pl_line.specs.Trees.{plain}
use Rattle.pl_line.specs.Quoted.{quoted}
use Rattle.pl_line.specs.Flow.{flow}
use Rattle.pl_yaml.specs.declared.head.Head.{Head}
use Rattle.pl_yaml.specs.declared.head.Head.TheVariants as heads
use Rattle.pl_yaml.specs.declared.key.Key.{Key}
use Rattle.pl_yaml.specs.Reading.{Read}
use Rattle.pl_yaml.specs.Heads.{head_of, refusal}
use Rattle.pl_yaml.specs.Content.{content}

-- a key: where it begins, its text, and what is left of its line behind the `:`
pub record FoundKey : Type 0 where
  pub start : Row
  pub text : List ℕ
  pub left : Row

-- a key of the code, without where its line lies in memory
abbrev pub found_key : Key → FoundKey
found_key key = record { start = row key.start; text = key.text; left = row key.left }

-- a mapping's `:`, before a blank or the line's end
abbrev pub colon_at : Bool → List ℕ → Bool
colon_at whole [] = false
colon_at whole (c ∷ cs) = c == 58 && ends_word whole cs

abbrev pub is_colon : Row → Bool
is_colon row = colon_at row.whole row.text

-- a plain scalar of so many characters before its `:`
abbrev pub plain_key : Row → ℕ → FoundKey
plain_key row n = record { start = row; text = plain n row; left = behind (n + 1) row }

-- a quoted scalar of so many characters, behind which a `:` must stand
abbrev pub quoted_key : Row → List ℕ × ℕ → Result FoundKey Fault
quoted_key row read =
    if is_colon (behind read.1 row)
    then Ok (record { start = row; text = read.0; left = behind 1 (behind read.1 row) })
    else Err (fault_at codes_of.NoEntry (behind read.1 row))

abbrev pub in_quotes : Row → Result FoundKey Fault
in_quotes row = quoted row >>= quoted_key row

-- what follows a flow collection in a key's place: with a `:` it is a key, of a kind that isn't
-- read
abbrev pub no_key : Row → Fault
no_key row = fault_at (if begins_with 58 row.text then codes_of.ComplexKey else codes_of.NoEntry)
    row

-- the key that begins at a row; so many collections may still open
abbrev pub key_by : FileKey → ℕ → Row → Head → Result FoundKey Fault
key_by file depth row (heads.Key n) = Ok (plain_key row n)
key_by file depth row (heads.Word n) = Err (fault_behind codes_of.NoEntry n row)
key_by file depth row heads.Quote = in_quotes row
key_by file depth row heads.Flow = flow file depth row >>= λ read. Err (no_key (behind read.1 row))
key_by file depth row head = Err (fault_at (refusal head) row)

-- A mapping's entry stands at its column and begins with a key.
abbrev pub key_in : FileKey → ℕ → ℕ → List Row → Read (Option FoundKey)
key_in file depth column [] = Ok (None, [])
key_in file depth column (row ∷ rows) =
    if nat_lt row.column column then Ok (None, row ∷ rows)
    else if nat_lt column row.column then Err (fault_at codes_of.BadIndent row)
    else (key_by file depth row (head_of row) >>= λ key. Ok (Some key, row ∷ rows))

unfoldable pub next_key : FileKey → ℕ → ℕ → List Row → Read (Option FoundKey)
next_key file depth column rows = content rows >>= key_in file depth column
