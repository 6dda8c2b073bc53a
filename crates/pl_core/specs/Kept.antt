-- How the state is kept: in a journal, beside a list of the entries.
use Rattle.std.specs.Prelude.{◌≡◌, ◌≤◌, ◌+◌, ℕ, List, drop, take}
use Rattle.pl_history.specs.Below.pl_due.specs.Fit.{AreFit, last_moment}
use Rattle.pl_facts.specs.Sizes.{counted, size_of, total}
use Rattle.pl_facts.specs.declared.entry.Entry.{Entry}
use Rattle.pl_facts.specs.declared.fact.Fact.{Fact}
use Rattle.pl_history.specs.Legal.{Legal}
use Rattle.pl_history.specs.History.{Opening, held_of, log_of, next_change}
use Rattle.pl_journal.specs.Log.{Log, version}
use Rattle.pl_journal.specs.Log as journal
use Rattle.pl_all_rows.specs.Below.pl_row_changes.specs.Counting.{row_changes}
use Rattle.pl_history.specs.Below.pl_step.specs.Full.{with_facts}

-- the facts in front are the opening's, and those behind all that are installed were prepared; the
-- number of the next change at the opening is kept beside
abbrev pub opening_of : ℕ → Log → Opening
opening_of first log = record {
  admin = log.admin;
  moment = log.opening.moment;
  run = log.opening.run;
  version = log.opening.version;
  change = first;
  facts = take log.opening.facts log.facts;
}

abbrev pub pending_of : Log → List Fact
pending_of log = drop log.installed log.facts

-- the journal has the entries' facts behind the opening's, and what was prepared behind these; the
-- entries are a legal history
pub record IsKept (first : ℕ) (log : Log) (entries : List Entry) : Type 0 where
  pub journal : log ≡ with_facts (log_of (opening_of first log) entries) (pending_of log)
  pub legal : Legal (opening_of first log) entries
  pub fit : AreFit log.facts
  pub within : log.opening.moment ≤ last_moment

-- the size of the entries, the last moment, the version of the files and the number of the next
-- change are kept beside
pub record AreNumbers (opening : Opening) (entries : List Entry) (size moment files change : ℕ) :
    Type 0 where
  pub size_is : size ≡ counted (total size_of entries)
  pub moment_is : moment ≡ journal.last_moment (log_of opening entries)
  pub files_is : files ≡ counted (version (log_of opening entries))
  pub change_is : change ≡ (held_of opening entries).change

-- the number of the next change behind facts that were prepared behind the entries
abbrev pub change_behind : Opening → List Entry → List Fact → ℕ
change_behind opening entries more =
    counted (next_change opening entries + row_changes (log_of opening entries).facts more)
