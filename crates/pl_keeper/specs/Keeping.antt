-- Who keeps rows: the order of the rows, and what changes make of them.
use Rattle.std.specs.Prelude.{◌≡◌, ℕ, Bool, not, List, [], ◌∷◌, ◌++◌, filter, fold, Option, Some}
use Rattle.std.specs.Prelude.{None}
use Rattle.std.specs.declared.cmp.Ordering.{Ordering}
use Rattle.std.specs.Ordering.{is_lt, nat_cmp, ordering_then}
use Rattle.std.specs.Cmp.Lexicographic.{slice_cmp}
use Rattle.std.specs.List.Sorted.{IsSorted, IsSortedBy}
use Rattle.std.specs.Option.{option_map, option_to_list}
use Rattle.pl_base.specs.declared.row.Change.{Change}
use Rattle.pl_base.specs.declared.row.Row.{Row}

-- a row's place: its table, and in the table its key
abbrev pub place : Row → ℕ × List ℕ
place row = (row.table, row.key)

-- by table, and in a table by the key's bytes
abbrev pub place_cmp : ℕ × List ℕ → ℕ × List ℕ → Ordering
place_cmp left right = ordering_then (nat_cmp left.0 right.0) (slice_cmp nat_cmp left.1 right.1)

abbrev pub comes_before : Row → Row → Bool
comes_before left right = is_lt (place_cmp (place left) (place right))

-- no row comes before the one that it stands behind
abbrev pub IsInOrder : List Row → Type 0
IsInOrder rows = IsSortedBy comes_before rows

-- by table and key, and rows of one table and key by their bodies
abbrev pub row_cmp : Row → Row → Ordering
row_cmp left right = ordering_then (place_cmp (place left) (place right))
    (slice_cmp nat_cmp left.body right.body)

-- the place of a change, as a row without a body
abbrev pub row_at : Change → Row
row_at change = record { table = change.table; key = change.key; body = [] }

-- the row that a change makes, if it makes one
abbrev pub made : Change → List Row
made change = option_to_list (option_map (λ body. record {
  table = change.table;
  key = change.key;
  body = body;
}) change.body)

-- rows after a change: those before its place, the row that it makes, those behind its place
abbrev pub changed : List Row → Change → List Row
changed rows change = filter (λ row. comes_before row (row_at change)) rows ++ (made change ++
    filter (λ row. comes_before (row_at change) row) rows)

-- rows after changes, one after the other
abbrev pub all_changed : List Change → List Row → List Row
all_changed changes rows = fold changed rows changes

-- what is said of the rows before and after a call: who tells rows after it told them before it,
-- and then the fact holds of both; where none are told after it, nothing is said
abbrev pub WhereTold : Option (List Row) → Option (List Row) → (List Row → List Row → Type 0) →
    Type 0
WhereTold before None fact = Unit {0}
WhereTold None (Some new) fact = ⊥
WhereTold (Some old) (Some new) fact = fact old new
