-- What rows tell of the service's numbers, of resources, of runs, of their stages and their jobs.
use Rattle.std.specs.Prelude.{ℕ, ◌++◌, List, [], Option, slice_get}
use Rattle.std.specs.Option.{option_and_then, option_map}
use Rattle.pl_base.specs.declared.resource.ResourceKey.{ResourceKey}
use Rattle.pl_fields.specs.Checks.{resource_key}
use Rattle.pl_fields.specs.Fields.{number}
use Rattle.pl_keeper.specs.declared.records.KeptJob.{KeptJob}
use Rattle.pl_keeper.specs.declared.records.KeptResource.{KeptResource}
use Rattle.pl_keeper.specs.declared.records.KeptStage.{KeptStage}
use Rattle.pl_keeper.specs.declared.records.Meta.{Meta}
use Rattle.pl_plan.specs.declared.plan.Plan.{Plan}
use Rattle.pl_plan.specs.declared.plan.PlanJob.{PlanJob}
use Rattle.pl_plan.specs.declared.plan.PlanStage.{PlanStage}
use Rattle.pl_torn.specs.Seen.{job_in, meta_in, record_at, resource_in, seen_at, stage_in}
use Rattle.pl_torn.specs.declared.seen.Seen.{Seen}

-- ---- places, by table and key

abbrev pub resource_place : ResourceKey → ℕ × List ℕ
resource_place key = (3, resource_key key)

abbrev pub run_place : ℕ → ℕ × List ℕ
run_place run = (6, number run)

abbrev pub stage_place : ℕ → ℕ → ℕ × List ℕ
stage_place run stage = (7, number run ++ number stage)

abbrev pub job_place : ℕ → ℕ → ℕ → ℕ × List ℕ
job_place run stage job = (8, number run ++ (number stage ++ number job))

-- ---- records

abbrev pub meta_told : List Seen → Option Meta
meta_told all = option_and_then meta_in (record_at (0, []) all)

abbrev pub resource_told : ResourceKey → List Seen → Option KeptResource
resource_told key all = option_and_then resource_in (record_at (resource_place key) all)

abbrev pub stage_told : ℕ → ℕ → List Seen → Option KeptStage
stage_told run stage all = option_and_then stage_in (record_at (stage_place run stage) all)

abbrev pub job_told : ℕ → ℕ → ℕ → List Seen → Option KeptJob
job_told run stage job all = option_and_then job_in (record_at (job_place run stage job) all)

-- ---- plans: what the sources of the run's row compile to

abbrev pub plan_told : ℕ → List Seen → Option Plan
plan_told run all = option_map (λ made. made.plan)
    (option_and_then (λ one. one.compiled) (seen_at (run_place run) all))

abbrev pub planned_stage : ℕ → ℕ → List Seen → Option PlanStage
planned_stage run stage all =
    option_and_then (λ plan. slice_get plan.stages stage) (plan_told run all)

abbrev pub planned_job : ℕ → ℕ → ℕ → List Seen → Option PlanJob
planned_job run stage job all =
    option_and_then (λ planned. slice_get planned.jobs job) (planned_stage run stage all)
