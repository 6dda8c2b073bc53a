-- What a legal history makes sure of: which stages start, and who holds what is exclusive.
use Rattle.std.specs.Prelude.{◌≡◌, ◌≤◌, ℕ, List, None}
use Rattle.pl_facts.specs.declared.entry.Entry.{Entry}
use Rattle.pl_history.specs.History.{Opening, facts_of}
use Rattle.pl_journal.specs.Runs.{queueing, stage_start}
use Rattle.pl_granting_laws.specs.Below.pl_settling.specs.Laws.{Along, HasOneHolder, StartsAsNext, StillOneHolder}

-- each stage that an entry starts was the next one, on all facts before that
abbrev pub StartAsNext : Opening → List Entry → Type 0
StartAsNext opening entries = Along StartsAsNext opening.facts (facts_of entries)

-- behind each fact of an entry, an exclusive resource has one holder at most
abbrev pub HoldAlone : Opening → List Entry → Type 0
HoldAlone opening entries = Along StillOneHolder opening.facts (facts_of entries)

-- What this asks of an opening: an exclusive resource has one holder at most, a stage that was
-- started is of a queued run, and no run's number is above that of the run that was queued last.
pub record IsSound (opening : Opening) : Type 0 where
  pub one : HasOneHolder opening.facts
  pub queued : (run stage : ℕ) → ¬ (stage_start run stage opening.facts ≡ None) →
      ¬ (queueing run opening.facts ≡ None)
  pub numbers : (run : ℕ) → ¬ (queueing run opening.facts ≡ None) → run ≤ opening.run
