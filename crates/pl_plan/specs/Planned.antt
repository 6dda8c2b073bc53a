-- What the plan of a pipeline is, clause by clause (Microsoft Learn, "YAML schema reference":
-- pipeline, stages.stage, jobs.job, jobs.deployment, pool; "Stages" and "Jobs", Specify
-- dependencies; "Define variables"; "Approvals and checks"). The clauses leave one plan.
use Rattle.std.specs.Prelude.{◌≡◌, ℕ, List, ◌++◌, All, Contains, map, flat_map, unwrap_or}
use Rattle.std.specs.List.{AllZip, enumerate_from}
use Rattle.pl_schema_parts.specs.declared.pipeline.JobSpec.{JobSpec}
use Rattle.pl_schema_parts.specs.declared.pipeline.Pipeline.{Pipeline}
use Rattle.pl_schema_parts.specs.declared.pipeline.StageSpec.{StageSpec}
use Rattle.pl_plan.specs.declared.legs.Leg.{Leg}
use Rattle.pl_plan.specs.declared.plan.Plan.{Plan}
use Rattle.pl_plan.specs.declared.plan.PlanJob.{PlanJob}
use Rattle.pl_plan.specs.declared.plan.PlanStage.{PlanStage}
use Rattle.pl_depends.specs.Graph.{stage_waits, job_waits}
use Rattle.pl_depends.specs.Places.{places_under, stage_entries, leg_entries}
use Rattle.pl_uses.specs.Pools.{pool_of, pool_name, demands_of}
use Rattle.pl_uses.specs.Uses.{all_uses}
use Rattle.pl_plan.specs.Laws.{Ascend}
use Rattle.pl_plan.specs.Legs.{legs_of}
use Rattle.pl_plan.specs.Plans.{behaviour_of, plan_step}

-- ---- jobs: the legs of all written jobs, in order

-- a job as it is written, and one of its legs
abbrev pub WrittenLeg : Type 0
WrittenLeg = JobSpec × Leg

abbrev pub written_legs : StageSpec → List WrittenLeg
written_legs stage = flat_map (λ job. map (λ leg. (job, leg)) (legs_of job.legs)) stage.jobs

pub record IsJobOf (pipeline : Pipeline) (stage : StageSpec) (written : WrittenLeg)
    (job : PlanJob) : Type 0 where
  pub name : job.name ≡ written.0.name
  pub leg : job.leg ≡ written.1.name
  pub deployment : job.deployment ≡ written.0.deployment
  pub condition : job.condition ≡ written.0.condition
  -- the job's variables, then the leg's
  pub variables : job.variables ≡ written.0.variables ++ written.1.variables
  pub groups : job.groups ≡ written.0.groups
  -- the pool is the job's, else its stage's, else the pipeline's, else `Default`
  pub pool : job.pool ≡ pool_name (pool_of pipeline stage written.0)
  pub demands : job.demands ≡ demands_of (pool_of pipeline stage written.0)
  -- 256 at once, 60 minutes and no going on after a failure are what counts where none is written
  pub at_once : job.max_parallel ≡ unwrap_or written.0.max_parallel 256
  pub minutes : job.timeout ≡ unwrap_or written.0.timeout 60
  pub go_on : job.go_on ≡ written.0.go_on
  pub steps : job.steps ≡ map plan_step written.0.steps
  -- who waits for a job waits for all its legs; without `dependsOn` it waits for none
  pub depends : job.depends ≡
      job_waits (places_under (leg_entries 0 stage.jobs)) written.0.depends

-- ---- stages, each with its place

pub record IsStageOf (pipeline : Pipeline) (written : ℕ × StageSpec) (stage : PlanStage) :
    Type 0 where
  pub name : stage.name ≡ written.1.name
  pub condition : stage.condition ≡ written.1.condition
  -- the pipeline's variables and groups, then its own
  pub variables : stage.variables ≡ pipeline.variables ++ written.1.variables
  pub groups : stage.groups ≡ pipeline.groups ++ written.1.groups
  pub behaviour : stage.behaviour ≡ behaviour_of pipeline written.1
  -- without `dependsOn` it waits for the stage before it
  pub depends : stage.depends ≡
      stage_waits (places_under (stage_entries 0 pipeline.stages)) written.0 written.1.depends
  -- all that it uses and nothing else, each once, by kind and then by name
  pub uses_ascend : Ascend stage.uses
  pub uses_only : All (Contains (all_uses pipeline written.1)) stage.uses
  pub uses_all : All (Contains stage.uses) (all_uses pipeline written.1)
  pub jobs : AllZip (IsJobOf pipeline written.1) (written_legs written.1) stage.jobs

-- ---- the plan

pub record IsPlanned (pipeline : Pipeline) (plan : Plan) : Type 0 where
  pub root : plan.root ≡ pipeline.root
  pub extends : plan.extends ≡ pipeline.extends
  pub linked : plan.linked ≡ pipeline.linked
  pub stages : AllZip (IsStageOf pipeline) (enumerate_from 0 pipeline.stages) plan.stages
