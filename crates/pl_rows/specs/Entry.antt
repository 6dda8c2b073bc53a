-- The rows that facts can change, before and behind.
use Rattle.std.specs.Prelude.{◌≡◌, ℕ, ◌++◌, List, [], IfSome}
use Rattle.std.specs.Option.{option_map, option_to_list}
use Rattle.pl_base.specs.declared.row.Row.{Row}
use Rattle.pl_touched.specs.Below.pl_facts.specs.declared.fact.Fact.{Fact}
use Rattle.pl_touched.specs.Below.pl_journal.specs.Log.{Log}
use Rattle.pl_keeper.specs.Rows.{row_of, IsKept}
use Rattle.pl_changes.specs.Differing.{Apart, Joins}
use Rattle.pl_places.specs.Below.pl_kept.specs.Kept.{kept_at, numbers_kept, Where}
use Rattle.pl_touched.specs.Touched.{rows_at, touched_by}

-- all that is kept can be read again
abbrev pub AllFit : List Fact → Type 0
AllFit facts = (at : Where) → IfSome (kept_at at facts) IsKept

abbrev pub with_added : Log → List Fact → Log
with_added log added = record log { facts = log.facts ++ added }

-- the service's numbers, and the rows at the places that these facts touch, of what the log tells
pub record AreLookedAt (change : ℕ) (log : Log) (added : List Fact) (rows : List Row) : Type 0 where
  pub touched : List Row
  pub apart : Apart touched
  pub joins : Joins [] (rows_at (touched_by added) log.facts) touched
  pub whole : rows ≡ option_to_list (option_map row_of (numbers_kept change log)) ++ touched
