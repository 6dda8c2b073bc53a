-- What an entry changes among the kept rows.
use Rattle.std.specs.Prelude.{◌≡◌, ◌≢◌, ◌↔◌, ℕ, ◌+◌, ◌++◌, List, take, IsTrue}
use Rattle.std.specs.List.{list_any}
use Rattle.pl_base.specs.declared.row.Change.{Change}
use Rattle.pl_base.specs.declared.row.Row.{Row}
use Rattle.pl_facts.specs.declared.fact.Fact.{Fact}
use Rattle.pl_journal.specs.Log.{Log}
use Rattle.pl_keeper.specs.Keeping.{all_changed}
use Rattle.pl_changes.specs.Differing.{is_change_at, row_in, AreOnePerPlace}
use Rattle.pl_rows.specs.Entry.{with_added, AllFit}
use Rattle.pl_rows.specs.State.{AreRows}
use Rattle.pl_row_changes.specs.Counting.{counted, row_changes}
use Rattle.pl_rows.specs.Below.pl_touched.specs.Touched.{AreNewTo}

-- without the facts that aren't installed
abbrev pub installed : Log → Log
installed log = record log { facts = take log.installed log.facts }

-- The changes are one of each place, as many as rows that the entry changes, and the number of the
-- next change counts them. Of a state they make the state behind: of the rows before those behind,
-- and they are of exactly the places at which these differ. What is kept behind can be read again
-- where all that was kept could.
pub record AreOfEntry (change next : ℕ) (log : Log) (added : List Fact) (changes : List Change) :
    Type 0 where
  pub next_is : next ≡ change + counted changes
  pub count : counted changes ≡ row_changes log.facts added
  pub once : AreOnePerPlace changes
  pub fit : AllFit log.facts → AreNewTo log.facts added → AllFit (log.facts ++ added)
  pub kept : (before : List Row) → AllFit log.facts → AreNewTo log.facts added →
      AreRows change log before → AreRows next (with_added log added) (all_changed changes before)
  pub differ : (before behind : List Row) → AllFit log.facts → AreNewTo log.facts added →
      AreRows change log before → AreRows next (with_added log added) behind →
      (at : ℕ × List ℕ) →
      IsTrue (list_any (is_change_at at) changes) ↔ (row_in at before ≢ row_in at behind)
