-- What a service has been through: what it was opened with, and the entries since then.
use Rattle.std.specs.Prelude.{ℕ, ◌+◌, ◌++◌, List, [], ◌∷◌, length, flat_map}
use Rattle.pl_base.specs.declared.digest.Digest.{Digest}
use Rattle.pl_facts.specs.Sizes.{counted, size_of, total}
use Rattle.pl_facts.specs.declared.entry.Entry.{Entry}
use Rattle.pl_facts.specs.declared.fact.Fact.{Fact}
use Rattle.pl_journal.specs.Log.{Log}
use Rattle.pl_step.specs.Below.pl_row_changes.specs.Counting.{row_changes}
use Rattle.pl_step.specs.declared.held.Held.{Held}

-- whose token is that of the principal `admin`; the moment of the last entry, the number of the run
-- that was queued last, the version of the files and the number of the next change of a row; and
-- the facts, in order
pub record Opening : Type 0 where
  pub admin : Digest
  pub moment : ℕ
  pub run : ℕ
  pub version : ℕ
  pub change : ℕ
  pub facts : List Fact

-- nothing has happened before
abbrev pub opened : Digest → Opening
opened admin = record {
  admin = admin;
  moment = 0;
  run = 0;
  version = 0;
  change = 0;
  facts = [];
}

-- ---- what follows from the entries

abbrev pub facts_of : List Entry → List Fact
facts_of entries = flat_map (λ entry. entry.facts) entries

-- all that has happened: the opening's facts, and those of the entries; all of them stay
unfoldable pub log_of : Opening → List Entry → Log
log_of opening entries = record {
  admin = opening.admin;
  opening = record {
    moment = opening.moment;
    run = opening.run;
    version = opening.version;
    facts = length opening.facts;
  };
  facts = opening.facts ++ facts_of entries;
  installed = length (opening.facts ++ facts_of entries);
}

-- how many rows entries change, behind these facts
abbrev pub changes_along : List Fact → List Entry → ℕ
changes_along facts [] = 0
changes_along facts (entry ∷ entries) =
    row_changes facts entry.facts + changes_along (facts ++ entry.facts) entries

-- the number of the next change of a row
abbrev pub next_change : Opening → List Entry → ℕ
next_change opening entries = opening.change + changes_along opening.facts entries

-- how many entries there are, what the bytes of their texts sum up to, and the number of the next
-- change
abbrev pub held_of : Opening → List Entry → Held
held_of opening entries = record {
  entries = length entries;
  size = counted (total size_of entries);
  change = counted (next_change opening entries);
}
