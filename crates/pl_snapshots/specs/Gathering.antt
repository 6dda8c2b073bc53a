-- How all files are gathered: each fact puts a file, removes one, or leaves all as they are.
use Rattle.std.specs.Prelude.{◌≤◌, List, Option, Some, None, length, take}
use Rattle.std.specs.FinMap as finite
use Rattle.pl_journal.specs.Below.pl_facts.specs.declared.fact.Event.{Event}
use Rattle.pl_journal.specs.Below.pl_facts.specs.declared.fact.Event.TheVariants as event
use Rattle.pl_journal.specs.Below.pl_facts.specs.declared.fact.Fact.{Fact}
use Rattle.pl_snapshots.specs.Snapshots.{AreFiles, Texts}
use Rattle.pl_snapshots.specs.declared.gathering.Gathered.{Gathered}

abbrev pub with_event : Event → Texts → Texts
with_event (event.FilePut told) texts = finite.insert texts told.key told.text
with_event (event.FileRemoved key) texts = finite.remove texts key
with_event _ texts = texts

abbrev pub with_fact : Option Fact → Texts → Texts
with_fact None texts = texts
with_fact (Some fact) texts = with_event fact.event texts

-- the files are those of the first so many facts
pub record IsGathered (facts : List Fact) (gathered : Gathered) : Type 0 where
  pub within : gathered.count ≤ length facts
  pub files_are : AreFiles (take gathered.count facts) gathered.files
