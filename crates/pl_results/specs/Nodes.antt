-- A plan that can run, and its stages and jobs.
use Rattle.std.specs.Prelude.{ℕ, ◌<◌, ◌^◌, List, [], All, length, slice_get, Option, Some, None}
use Rattle.std.specs.Option.{option_map_or}
use Rattle.pl_plan.specs.Laws.{IsSound}
use Rattle.pl_plan.specs.declared.plan.Plan.{Plan}
use Rattle.pl_plan.specs.declared.plan.PlanJob.{PlanJob}
use Rattle.pl_plan.specs.declared.plan.PlanStage.{PlanStage}
use Rattle.pl_results.specs.declared.members.PlanNode.{PlanNode}
use Rattle.pl_results.specs.declared.members.PlanNode.TheVariants.{Stage, Job}

-- the jobs of the stage at a place, each leg being one
abbrev pub jobs_of : Plan → ℕ → List PlanJob
jobs_of plan stage = option_map_or (λ one. one.jobs) (slice_get plan.stages stage) []

-- What a plan waits for are places of its own lists, without a cycle, and its places are numbers
-- of 32 bits.
pub record CanRun (plan : Plan) : Type 0 where
  pub sound : IsSound plan
  pub stages : length plan.stages < 2 ^ 32
  pub jobs : All (λ stage. length stage.jobs < 2 ^ 32) plan.stages

-- a stage of the plan, or a job of one of its stages
abbrev pub IsNodeOf : Plan → PlanNode → Type 0
IsNodeOf plan (Stage stage) = stage < length plan.stages
IsNodeOf plan (Job stage job) = (stage < length plan.stages) × (job < length (jobs_of plan stage))
