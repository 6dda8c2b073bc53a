-- The numbers of a service have at most 18 digits.
use Rattle.std.specs.Prelude.{◌≤◌, List}
use Rattle.pl_facts.specs.declared.entry.Entry.{Entry}
use Rattle.pl_history.specs.History.{Opening, log_of, next_change}
use Rattle.pl_journal.specs.Log.{last_run, version}
use Rattle.pl_step.specs.Full.{last_number}

-- behind these entries: the number of the run that was queued last, the version of the files, and
-- the number of the next change of a row
pub record AreWithin (opening : Opening) (entries : List Entry) : Type 0 where
  pub run : last_run (log_of opening entries) ≤ last_number
  pub version_is : version (log_of opening entries) ≤ last_number
  pub change : next_change opening entries ≤ last_number
