-- How many rows an entry changes.
use Rattle.std.specs.Prelude.{ℕ, not, ◌++◌, List, [], ◌∷◌, filter, length}
use Rattle.pl_base.specs.declared.row.Change.{Change}
use Rattle.pl_base.specs.declared.row.Row.{Row}
use Rattle.pl_facts.specs.declared.fact.Fact.{Fact}
use Rattle.pl_keeper.specs.Keeping.{place}
use Rattle.pl_changes.specs.Differing.{differing, is_change_at, stands_at}
use Rattle.pl_rows.specs.Below.pl_touched.specs.Touched.{rows_at, touched_by}

-- of each place the first row
abbrev pub firsts : List Row → List Row
firsts [] = []
firsts (row ∷ rows) = row ∷ filter (λ other. not (stands_at (place row) other)) (firsts rows)

-- the rows that facts tell at the places that an entry touches, of each place one
abbrev pub rows_touched : List Fact → List Fact → List Row
rows_touched added facts = firsts (rows_at (touched_by added) facts)

-- What differs between these before the entry and behind it: so many rows it changes, those of the
-- service's numbers left out.
unfoldable pub row_changes : List Fact → List Fact → ℕ
row_changes facts added =
    length (differing (rows_touched added facts) (rows_touched added (facts ++ added)))

-- how many changes there are, those of the service's numbers left out
abbrev pub counted : List Change → ℕ
counted changes = length (filter (λ one. not (is_change_at (0, []) one)) changes)
