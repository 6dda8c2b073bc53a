-- The plan of a pipeline (Microsoft Learn, "YAML schema reference": pipeline, stages.stage,
-- jobs.job, jobs.deployment; "Define variables"; "Approvals and checks", Exclusive lock).
use Rattle.std.specs.Prelude.{◌≡◌, ℕ, ◌+◌, ◌⊎◌, List, [], ◌∷◌, ◌++◌, map, flat_map, None, Option}
use Rattle.std.specs.Prelude.{Some, unwrap_or, Result, Ok, Err}
use Rattle.std.specs.Option.{option_or}
use Rattle.pl_base.specs.declared.outcome.Behaviour.{Behaviour}
use Rattle.pl_base.specs.declared.outcome.Behaviour.TheVariants.{RunLatest}
use Rattle.pl_schema_parts.specs.declared.pipeline.JobSpec.{JobSpec}
use Rattle.pl_schema_parts.specs.declared.pipeline.Pipeline.{Pipeline}
use Rattle.pl_schema_parts.specs.declared.pipeline.PoolSpec.{PoolSpec}
use Rattle.pl_schema_parts.specs.declared.pipeline.StageSpec.{StageSpec}
use Rattle.pl_schema_parts.specs.declared.pipeline.StepSpec.{StepSpec}
use Rattle.pl_plan.specs.declared.legs.Leg.{Leg}
use Rattle.pl_plan.specs.declared.plan.Plan.{Plan}
use Rattle.pl_plan.specs.declared.plan.PlanJob.{PlanJob}
use Rattle.pl_plan.specs.declared.plan.PlanStage.{PlanStage}
use Rattle.pl_plan.specs.declared.plan.PlanStep.{PlanStep}
use Rattle.pl_depends.specs.Cycles.{FirstCycle}
use Rattle.pl_depends.specs.Gives.{Fault}
use Rattle.pl_reading.specs.Steps.{◌>>=◌}
use Rattle.pl_depends.specs.Graph.{stage_waits, job_waits}
use Rattle.pl_depends.specs.Known.{names_known}
use Rattle.pl_plan.specs.Legs.{legs_of, all_legs_judged}
use Rattle.pl_plan.specs.Limits.{limits_kept}
use Rattle.pl_depends.specs.Places.{Finding, places_under, stage_entries, leg_entries}
use Rattle.pl_uses.specs.Pools.{pool_of, pool_name, demands_of}
use Rattle.pl_uses.specs.Uses.{uses_of}

-- ---- a job

abbrev pub plan_step : StepSpec → PlanStep
plan_step step = record { form = step.form; body = step.body }

-- Its variables are the job's, then the leg's. A job ends after 60 minutes where no other time is
-- written, and so many of its legs may run at once as are written, else 256, which is this
-- project's own number.
abbrev pub plan_leg : Option PoolSpec → List ℕ → List PlanStep → JobSpec → Leg → PlanJob
plan_leg pool depends steps job leg = record {
  name = job.name;
  leg = leg.name;
  deployment = job.deployment;
  depends = depends;
  condition = job.condition;
  variables = job.variables ++ leg.variables;
  groups = job.groups;
  pool = pool_name pool;
  demands = demands_of pool;
  max_parallel = unwrap_or job.max_parallel 256;
  timeout = unwrap_or job.timeout 60;
  go_on = job.go_on;
  steps = steps;
}

-- a job's legs, in order
abbrev pub plan_job : Pipeline → StageSpec → Finding → JobSpec → List PlanJob
plan_job pipeline stage find job =
    map (plan_leg (pool_of pipeline stage job) (job_waits find job.depends)
    (map plan_step job.steps) job) (legs_of job.legs)

-- a job that waits for a job waits for all its legs
abbrev pub plan_jobs : Pipeline → StageSpec → List PlanJob
plan_jobs pipeline stage =
    flat_map (plan_job pipeline stage (places_under (leg_entries 0 stage.jobs))) stage.jobs

-- ---- a stage

-- a stage's own behaviour, else the pipeline's, else the latest run alone goes on
abbrev pub behaviour_of : Pipeline → StageSpec → Behaviour
behaviour_of pipeline stage = unwrap_or (option_or stage.behaviour pipeline.behaviour) RunLatest

-- its variables and groups are the pipeline's, then its own
abbrev pub plan_stage : Pipeline → Finding → ℕ → StageSpec → PlanStage
plan_stage pipeline find at stage = record {
  name = stage.name;
  depends = stage_waits find at stage.depends;
  condition = stage.condition;
  variables = pipeline.variables ++ stage.variables;
  groups = pipeline.groups ++ stage.groups;
  uses = uses_of pipeline stage;
  behaviour = behaviour_of pipeline stage;
  jobs = plan_jobs pipeline stage;
}

abbrev pub plan_stages : Pipeline → Finding → ℕ → List StageSpec → List PlanStage
plan_stages pipeline find at [] = []
plan_stages pipeline find at (stage ∷ stages) =
    plan_stage pipeline find at stage ∷ plan_stages pipeline find (at + 1) stages

-- ---- the plan

abbrev pub stages_of : Pipeline → List PlanStage
stages_of pipeline =
    plan_stages pipeline (places_under (stage_entries 0 pipeline.stages)) 0 pipeline.stages

unfoldable pub plan_from : Pipeline → Plan
plan_from pipeline = record {
  root = pipeline.root;
  extends = pipeline.extends;
  linked = pipeline.linked;
  stages = stages_of pipeline;
}

-- what is judged before the cycles: legs, limits, names that are waited for
unfoldable pub judged : List StageSpec → Result (Unit {0}) Fault
judged stages = all_legs_judged stages
    >>= λ done. limits_kept stages
    >>= λ done. names_known stages

-- the plan, where no fault is found and no cycle; else the first fault, or else the first cycle
abbrev pub IsPlanOf : Pipeline → Result Plan Fault → Type 0
IsPlanOf pipeline (Ok plan) = (judged pipeline.stages ≡ Ok tt)
    × FirstCycle pipeline.stages None × (plan ≡ plan_from pipeline)
IsPlanOf pipeline (Err fault) = (judged pipeline.stages ≡ Err fault)
    ⊎ ((judged pipeline.stages ≡ Ok tt) × FirstCycle pipeline.stages (Some fault))
