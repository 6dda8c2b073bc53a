-- Comment lines and empty lines between the lines of a text (YAML 1.2.2, sections 6.4 and 6.6).
use Rattle.std.specs.Prelude.{◌≡◌, ℕ, ◌+◌, Bool, true, false, ◌==◌, ◌&&◌, ◌||◌, not, nat_lt, List}
use Rattle.std.specs.Prelude.{[]}
use Rattle.std.specs.Prelude.{◌∷◌, ◌++◌, drop, take, Err, if◌then◌else◌}
use Rattle.std.specs.List.{list_any}
use Rattle.pl_base.specs.declared.place.FileKey.{FileKey}
use Rattle.pl_line.specs.declared.line_fault.Fault.{Fault}
use Rattle.pl_line.specs.Rows.{Row, rows_of}
use Rattle.pl_line.specs.Left.{behind, is_done, is_bare, is_comment, is_empty}
use Rattle.pl_line.specs.Scanning.{ends_word, plain_len}
use Rattle.pl_reading.specs.Bytes.{begins_with}
use Rattle.pl_yaml.specs.Heads.{is_block, is_start}
use Rattle.pl_yaml.specs.Spells.{document, placed}
use Rattle.pl_yaml_laws.specs.EmptyLines.{IsPassedOver}
use Rattle.pl_yaml_laws.specs.Texts.{IsText, spelled}

-- A mapping's `:` stands on a line, before a comment: no plain scalar goes on there.
abbrev pub has_colon : Row → Bool
has_colon row = begins_with 58 (drop (plain_len row.whole false row.text) row.text)

-- A line ends with another character than `:`, so that it may hold a scalar that goes on.
abbrev pub leaves_open : List ℕ → Bool
leaves_open [] = false
leaves_open (c ∷ []) = not (c == 58)
leaves_open (c ∷ (d ∷ cs)) = leaves_open (d ∷ cs)

-- A line is not deeper than that column.
abbrev pub is_low : ℕ → Row → Bool
is_low column row = not (nat_lt column row.column)

-- A line that is not blank is not deeper.
abbrev pub is_left : ℕ → List Row → Bool
is_left column rows = list_any (λ row. not (is_bare row) && is_low column row) rows

-- No plain scalar that is held by a block of that column goes on behind the lines of blanks that
-- follow it: the next line is a comment, has a mapping's `:`, or is not deeper.
abbrev pub stops : ℕ → Row → Bool
stops column row = is_comment row || (has_colon row || is_low column row)

abbrev pub is_stopped : ℕ → List Row → Row → Bool
is_stopped column [] next = stops column next
is_stopped column (row ∷ rows) next =
    if is_bare row then is_stopped column rows next else stops column row

-- No scalar that begins in that text, held by a block of that column, goes on behind the rows that
-- follow, where the next row stands: one of them is not deeper than the block; or the text has no
-- `|` and no `>`, with which block scalars begin, and no plain scalar goes on either.
abbrev pub is_ended : ℕ → List ℕ → List Row → Row → Bool
is_ended column text rows next =
    is_left column rows
    || not (list_any is_block text) && (not (leaves_open text) || is_stopped column rows next)

-- A line begins with a sequence's dash.
abbrev pub begins_item : Row → Bool
begins_item row = begins_with 45 row.text && ends_word row.whole (drop 1 row.text)

-- A line may begin with a scalar alone, with no dash and no key before it.
abbrev pub is_scalar : Row → Bool
is_scalar row =
    not (begins_item row) && (not (has_colon row) || list_any is_block (take 1 row.text))

-- a line without content, or `---`
abbrev pub is_passed : Row → Bool
is_passed row = is_empty row || is_start row

-- The same of a scalar that stands alone on the next line with content, held by that block.
abbrev pub alone_ended : ℕ → List Row → Row → Bool
alone_ended column [] next = true
alone_ended column (row ∷ rows) next =
    if is_passed row then alone_ended column rows next
    else not (is_scalar row) || is_ended column row.text rows next

-- No collection begins where nothing is left of a line, or a scalar alone.
abbrev pub is_plain : Row → Bool
is_plain row = is_passed row || (is_done row || is_scalar row)

-- The column, at least, of the block that holds a scalar on a line, or alone on the line behind it:
-- that of the line's first character, or two further where a dash stands there before a collection.
abbrev pub held_at : Row → ℕ
held_at row =
    if begins_item row && not (is_plain (behind 1 row)) then row.column + 2 else row.column

-- the same of each of these rows, and of a scalar alone on the line behind it
abbrev pub each_ended : List Row → Row → Bool
each_ended [] next = true
each_ended (row ∷ rows) next =
    (is_passed row
    || is_ended (held_at row) row.text rows next && alone_ended (held_at row) rows next)
    && each_ended rows next

-- No scalar that begins on one of these rows goes on where the next row stands.
abbrev pub all_ended : List Row → Row → Bool
all_ended rows next = alone_ended 0 rows next && each_ended rows next

-- These rows aren't refused on the line of that one.
abbrev pub IsReadThere : FileKey → List Row → Row → Type 0
IsReadThere file rows row =
    (fault : Fault) → document file rows ≡ Err fault → fault.line ≡ row.number → ⊥

-- Between rows, before a row with content at which no scalar goes on, a row that is passed over
-- changes nothing; unless reading is refused on that next row.
abbrev pub PassedOverBetween : Type 0
PassedOverBetween =
    (file : FileKey) (front : List Row) (row next : Row) (rest : List Row) → IsPassedOver row
    → is_empty next ≡ false → all_ended front next ≡ true
    → IsReadThere file (front ++ next ∷ rest) next
    → document file (front ++ row ∷ next ∷ rest) ≡ document file (front ++ next ∷ rest)

-- So a text with such a line in it spells what its other rows spell, with the numbers that they
-- have: the lines behind it are numbered one further than they would be without it.
abbrev pub PassedOverInside : Type 0
PassedOverInside =
    (file : FileKey) (text : List ℕ) (front : List Row) (row next : Row) (rest : List Row)
    → IsText text → rows_of text ≡ front ++ row ∷ next ∷ rest → IsPassedOver row
    → is_empty next ≡ false → all_ended front next ≡ true
    → IsReadThere file (front ++ next ∷ rest) next
    → spelled file text ≡ placed file (document file (front ++ next ∷ rest))
