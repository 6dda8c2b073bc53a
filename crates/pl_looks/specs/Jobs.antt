-- The jobs of a run's stages that run: those that wait for an agent alone, and those that an agent
-- holds.
use Rattle.std.specs.Prelude.{ℕ, List, [], flat_map, length, slice_get, Option, Some, None}
use Rattle.std.specs.Prelude.{if◌then◌else◌}
use Rattle.std.specs.List.{filter_map, range_with_len}
use Rattle.std.specs.Option.{option_and_then, option_map, option_map_or}
use Rattle.pl_facts.specs.declared.fact.Fact.{Fact}
use Rattle.pl_due.specs.Below.pl_journal.specs.Runs.{holding, queueing, run_told, taker_told}
use Rattle.pl_due.specs.Below.pl_journal.specs.Settings.{by}
use Rattle.pl_facts.specs.Below.pl_plan.specs.declared.plan.PlanStage.{PlanStage}
use Rattle.pl_due.specs.Nodes.{awaits_agent}
use Rattle.pl_due.specs.Open.{of_run, runs}
use Rattle.pl_looks.specs.declared.types.ReadyJob.{ReadyJob}
use Rattle.pl_looks.specs.declared.types.TakenJob.{TakenJob}

-- ---- of one job

abbrev pub ready_job : List Fact → PlanStage → ℕ → ℕ → ℕ → Option ReadyJob
ready_job facts one run stage job = option_and_then
    (λ planned. if awaits_agent one run stage job facts
    then Some (record { pool = planned.pool; stage = stage; job = job }) else None)
    (slice_get one.jobs job)

abbrev pub taken_job : List Fact → PlanStage → ℕ → ℕ → ℕ → Option TakenJob
taken_job facts one run stage job = option_map
    (λ agent. record { agent = agent; stage = stage; job = job })
    (by taker_told (holding run stage job facts))

-- ---- of one stage, by the places of its jobs

-- what is told of a job
abbrev pub Telling : Type 0 → Type 0
Telling X = List Fact → PlanStage → ℕ → ℕ → ℕ → Option X

abbrev pub of_stage : {X : Type 0} → Telling X → List Fact → PlanStage → ℕ → ℕ → List X
of_stage telling facts one run stage =
    filter_map (telling facts one run stage) (range_with_len 0 (length one.jobs))

-- of the stage at a place, if it is there
abbrev pub of_place : {X : Type 0} → Telling X → List Fact → ℕ → ℕ → List X
of_place telling facts run stage = option_map_or (λ told. option_map_or
    (λ one. of_stage telling facts one run stage) (slice_get told.compiled.plan.stages stage) [])
    (by run_told (queueing run facts)) []

-- ---- of all stages of a run that run

abbrev pub told_jobs : {X : Type 0} → Telling X → ℕ → List Fact → List X
told_jobs telling run facts =
    flat_map (λ at. of_place telling facts run at.stage) (of_run facts (runs facts) run)

abbrev pub ready_jobs : ℕ → List Fact → List ReadyJob
ready_jobs run facts = told_jobs ready_job run facts

abbrev pub taken_jobs : ℕ → List Fact → List TakenJob
taken_jobs run facts = told_jobs taken_job run facts
