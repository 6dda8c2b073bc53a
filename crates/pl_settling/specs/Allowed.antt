-- How many facts settling may add: two for each stage of a queued run's plan, one for each job.
use Rattle.std.specs.Prelude.{ℕ, ◌+◌, List, length}
use Rattle.std.specs.List.{sum_by}
use Rattle.std.specs.Option.{option_map_or}
use Rattle.pl_facts.specs.declared.fact.Fact.{Fact}
use Rattle.pl_facts.specs.Below.pl_plan.specs.declared.plan.PlanStage.{PlanStage}
use Rattle.pl_due.specs.Below.pl_journal.specs.Runs.{run_told}

abbrev pub allowed_of : PlanStage → ℕ
allowed_of one = 2 + length one.jobs

-- by one fact: where it queues a run
abbrev pub allowed_by : Fact → ℕ
allowed_by fact = option_map_or (λ told. sum_by allowed_of told.compiled.plan.stages)
    (run_told fact.event) 0

abbrev pub allowed : List Fact → ℕ
allowed facts = sum_by allowed_by facts
