-- Rows before and behind, and the changes of what differs.
use Rattle.std.specs.Prelude.{◌≡◌, ◌⊎◌, ℕ, Bool, true, false, not, ◌++◌, List, [], ◌∷◌, map, filter}
use Rattle.std.specs.Prelude.{Option, Some, None, is_some}
use Rattle.std.specs.List.{find, list_any, AllByRecursion}
use Rattle.std.specs.Option.{option_map_or, option_or}
use Rattle.std.specs.Ordering.{is_eq}
use Rattle.pl_base.specs.declared.row.Change.{Change}
use Rattle.pl_base.specs.declared.row.Row.{Row}
use Rattle.pl_keeper.specs.Keeping.{comes_before, place, place_cmp, row_cmp}

-- ---- rows

-- the row that stands at a place: its table, and in the table its key
abbrev pub stands_at : ℕ × List ℕ → Row → Bool
stands_at at row = is_eq (place_cmp (place row) at)

abbrev pub row_in : ℕ × List ℕ → List Row → Option Row
row_in at rows = find (stands_at at) rows

-- no two rows stand at one place
abbrev pub Apart : List Row → Type 0
Apart [] = Unit {0}
Apart (row ∷ rows) =
    AllByRecursion (λ later. is_eq (place_cmp (place row) (place later)) ≡ false) rows × Apart rows

-- at each place new rows are the old ones, and where these have none, what was to be added
abbrev pub Joins : (old more new : List Row) → Type 0
Joins old more new = (at : ℕ × List ℕ) →
    row_in at new ≡ option_or (row_in at old) (row_in at more)

-- each row comes before those behind it
abbrev pub Ascend : List Row → Type 0
Ascend [] = Unit {0}
Ascend (row ∷ rows) = AllByRecursion (λ later. comes_before row later ≡ true) rows × Ascend rows

-- whether there is a row at the place of this one, and whether it is this very row
abbrev pub have_place : List Row → Row → Bool
have_place rows row = is_some (row_in (place row) rows)

abbrev pub have_row : List Row → Row → Bool
have_row rows row = option_map_or (λ other. is_eq (row_cmp other row)) (row_in (place row) rows)
    false

-- ---- changes

-- the changes by which a row goes, and comes
abbrev pub going : Row → Change
going row = record { table = row.table; key = row.key; body = None }

abbrev pub coming : Row → Change
coming row = record { table = row.table; key = row.key; body = Some row.body }

-- whether a change is one of this place
abbrev pub is_change_at : ℕ × List ℕ → Change → Bool
is_change_at at change = is_eq (place_cmp (change.table, change.key) at)

-- What differs: the old rows go at whose place nothing new is, and then those new rows come that
-- weren't there, or weren't so.
abbrev pub gone : List Row → List Row → List Row
gone old new = filter (λ row. not (have_place new row)) old

abbrev pub come : List Row → List Row → List Row
come old new = filter (λ row. not (have_row old row)) new

abbrev pub differing : List Row → List Row → List Change
differing old new = map going (gone old new) ++ map coming (come old new)

-- At a place the old and the new rows are what stands there before and behind, or they don't differ
-- there, and what stands there before and behind doesn't either.
abbrev pub TellAt : ℕ × List ℕ → List Row → Option Row → (old new : List Row) → Type 0
TellAt at before behind old new =
    ((row_in at old ≡ row_in at before) × (row_in at new ≡ behind)) ⊎
    ((row_in at old ≡ row_in at new) × (row_in at before ≡ behind))

-- The old and the new rows are looked at among all rows before and behind, so that nothing is
-- overlooked.
abbrev pub OverlookNothing : (before behind old new : List Row) → Type 0
OverlookNothing before behind old new = (at : ℕ × List ℕ) →
    TellAt at before (row_in at behind) old new

-- no two changes are of one place
abbrev pub AreOnePerPlace : List Change → Type 0
AreOnePerPlace [] = Unit {0}
AreOnePerPlace (change ∷ changes) =
    (list_any (is_change_at (change.table, change.key)) changes ≡ false) × AreOnePerPlace changes
