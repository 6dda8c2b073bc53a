-- Decisions about stages that are planned, and runs that aren't above the last one.
use Rattle.std.specs.Prelude.{◌≡◌, ℕ, false, List, Some, None}
use Rattle.pl_facts.specs.declared.fact.Fact.{Fact}
use Rattle.pl_journal.specs.Runs.{decision}
use Rattle.pl_keeper.specs.declared.records.Meta.{Meta}
use Rattle.pl_keeper.specs.declared.records.Record.{Record}
use Rattle.pl_keeper.specs.declared.records.Record.TheVariants as kept
use Rattle.pl_kept.specs.Kept.{planned_stage}
use Rattle.pl_torn.specs.Plans.{is_above}

abbrev pub ArePlanned : List Fact → Type 0
ArePlanned facts = (run stage : ℕ) (name : List ℕ) → ¬ (decision run stage name facts ≡ None) →
    ¬ (planned_stage run stage facts ≡ None)

-- the same of records: the run is one that was queued, the stage is one of its plan
abbrev pub IsBelow : Meta → List Fact → Record → Type 0
IsBelow numbers facts (kept.Run told) = is_above (Some numbers) told ≡ false
IsBelow numbers facts (kept.Decision told) = ¬ (planned_stage told.run told.stage facts ≡ None)
IsBelow numbers facts _ = Unit {0}
