-- The state of a service: what it has been through, and what was prepared.
use Rattle.std.specs.Prelude.{List, []}
use Rattle.pl_base.specs.declared.digest.Digest.{Digest}
use Rattle.pl_facts.specs.declared.entry.Entry.{Entry}
use Rattle.pl_facts.specs.declared.fact.Fact.{Fact}
use Rattle.pl_history.specs.History.{Opening, held_of, log_of, opened}
use Rattle.pl_journal.specs.Log.{Log}
use Rattle.pl_history.specs.Below.pl_step.specs.declared.held.Held.{Held}

-- the opening, the entries since, and beside them the facts that were prepared for one entry more
-- and that aren't yet installed
pub record State : Type 0 where
  pub opening : Opening
  pub entries : List Entry
  pub pending : List Fact

-- nothing has happened since it was opened
abbrev pub opened_state : Opening → State
opened_state opening = record { opening = opening; entries = []; pending = [] }

abbrev pub new_state : Digest → State
new_state admin = opened_state (opened admin)

abbrev pub log : State → Log
log state = log_of state.opening state.entries

abbrev pub held : State → Held
held state = held_of state.opening state.entries
