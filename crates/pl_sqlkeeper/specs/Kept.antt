-- The rows that a keeper over a database tells.
use Rattle.std.specs.Prelude.{◌≡◌, ◌<ℤ◌, Bool, true, false, if◌then◌else◌, List, [], ◌∷◌, length}
use Rattle.std.specs.Prelude.{map, flat_map}
use Rattle.std.specs.Prelude.{Option, Some, None, IfSome, IsTrue}
use Rattle.std.specs.List.{AllAdjacentBelow, AllByRecursion}
use Rattle.sqlite.specs.declared.types.Value.{Value}
use Rattle.sqlite.specs.declared.types.Value.TheVariants.{Blob}
use Rattle.sqlite.specs.Order.{Row, column}
use Rattle.sqlite.specs.Tree.{Trees, rowid, has_rowid, IsAscending}
use Rattle.sqlite.specs.Edit.{id_in}
use Rattle.sqlite.specs.View.{is_int}
use Rattle.sqlite.specs.Effect.{Database}
use Rattle.sqlite.specs.State.{State}
use Rattle.pl_base.specs.declared.row.Change.{Change}
use Rattle.pl_base.specs.declared.row.Row.{Row as Kept}
use Rattle.pl_keeper.specs.Keeping.{all_changed, comes_before}
use Rattle.pl_sqlkeeper.specs.Schema.{kept_schema}

-- the kept row that a place and a body stand for, if they do
abbrev pub kept_at : Value → Value → List Kept
kept_at (Blob (table ∷ key)) (Blob body) = record { table = table; key = key; body = body } ∷ []
kept_at _ _ = []

-- the kept rows of the table's rows, whose first column is their number
abbrev pub kept_of : Row → List Kept
kept_of row = kept_at (column row 1) (column row 2)

abbrev pub put_of : Kept → Change
put_of row = record { table = row.table; key = row.key; body = Some row.body }

-- the kept rows in order of table and key: each is put in
abbrev pub rows_in : Trees → List Kept
rows_in db = all_changed (map put_of (flat_map kept_of (db 0))) []

-- each row comes before the next one
abbrev pub IsStrict : List Kept → Type 0
IsStrict rows = AllAdjacentBelow (λ first second. comes_before first second ≡ true) rows
    (length rows)

-- a row as the reading of all rows shows it, and as the listing of their numbers does
abbrev pub read_row : Row → Row
read_row row = column row 1 ∷ column row 2 ∷ []

abbrev pub number_row : Row → Row
number_row row = column row 0 ∷ []

abbrev pub HasNumber : Row → Type 0
HasNumber row = is_int (rowid row) ≡ true

abbrev pub Rises : Row → Row → Type 0
Rises first second = id_in (rowid first) <ℤ id_in (rowid second)

-- the second row has the first one's number
abbrev pub has_number_of : Row → Row → Bool
has_number_of first second = has_rowid (id_in (rowid first)) second

-- each row has a number of its own
pub record AreApart (rows : List Row) : Type 0 where
  pub numbered : AllByRecursion (λ row. has_number_of row row ≡ true) rows
  pub strangers : IsAscending (λ first second. (has_number_of first second ≡ false) ×
      (has_number_of second first ≡ false)) rows

-- the database has the keeper's table, and nothing else
pub record IsOurs (db : Database) : Type 0 where
  pub schema : db.schema ≡ kept_schema
  pub apart : AreApart (db.trees 0)

abbrev pub StaysOurs : State → Type 0
StaysOurs s = IsTrue s.is_open → IsOurs s.now

-- while the database is open, its rows are told
abbrev pub told_by : State → Option (List Kept)
told_by s = if s.is_open then Some (rows_in s.now.trees) else None

-- where the rows are told, there are none
abbrev pub TellsNoRows : State → Type 0
TellsNoRows s = IfSome (told_by s) (λ held. held ≡ [])
