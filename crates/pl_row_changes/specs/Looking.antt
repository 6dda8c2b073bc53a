-- What is looked at before an entry.
use Rattle.std.specs.Prelude.{◌≡◌, ℕ, ◌+◌, List, length}
use Rattle.std.specs.Option.{option_map, option_to_list}
use Rattle.pl_base.specs.declared.row.Row.{Row}
use Rattle.pl_facts.specs.declared.fact.Fact.{Fact}
use Rattle.pl_journal.specs.Log.{Log}
use Rattle.pl_keeper.specs.Rows.{row_of}
use Rattle.pl_changes.specs.Differing.{differing}
use Rattle.pl_rows.specs.Below.pl_kept.specs.Kept.{numbers_kept}
use Rattle.pl_rows.specs.Entry.{AreLookedAt}
use Rattle.pl_row_changes.specs.declared.looked.Looked.{Looked}

-- the row of the service's numbers, if there is one
abbrev pub numbers : ℕ → Log → List Row
numbers change log = option_to_list (option_map row_of (numbers_kept change log))

-- the rows at touched places before, with that of the numbers; those behind; and the number of the
-- next change behind
pub record IsLooked (change : ℕ) (log : Log) (added : List Fact) (behind : List Row)
    (looked : Looked) : Type 0 where
  pub seen : AreLookedAt change log added looked.old.items
  pub behind_is : looked.behind.items ≡ behind
  pub next_is : looked.next ≡ change + length (differing seen.touched behind)
