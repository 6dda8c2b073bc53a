-- The steps of a plan, and the tree that it was made of (Microsoft Learn, "YAML schema reference",
-- steps).
use Rattle.std.specs.Prelude.{◌≡◌, List, Ok, Contains, flat_map}
use Rattle.std.specs.List.{AllByRecursion}
use Rattle.pl_base.specs.declared.expanded.Expanded.{Expanded}
use Rattle.pl_base.specs.declared.origin.Origin.{Origin}
use Rattle.pl_base.specs.declared.value.MarkedNode.{MarkedNode}
use Rattle.pl_eval_laws.specs.Marks.{Mark, marks_of}
use Rattle.pl_eval_laws.specs.Trees.{origins_in, origins_of}
use Rattle.pl_plan.specs.Plans.{IsPlanOf}
use Rattle.pl_plan.specs.declared.plan.Plan.{Plan}
use Rattle.pl_plan.specs.declared.plan.PlanJob.{PlanJob}
use Rattle.pl_plan.specs.declared.plan.PlanStage.{PlanStage}
use Rattle.pl_plan.specs.declared.plan.PlanStep.{PlanStep}
use Rattle.pl_provenance.specs.Roots.{jobs_of}
use Rattle.pl_schema.specs.Pipelines.{pipeline_of}
use Rattle.pl_schema_parts.specs.declared.pipeline.Pipeline.{Pipeline}

-- what is asked of each step
abbrev pub IsJobOf : (PlanStep → Type 0) → PlanJob → Type 0
IsJobOf Q job = AllByRecursion Q job.steps

abbrev pub IsStageOf : (PlanStep → Type 0) → PlanStage → Type 0
IsStageOf Q stage = AllByRecursion (IsJobOf Q) stage.jobs

abbrev pub AreStepsOf : (PlanStep → Type 0) → Plan → Type 0
AreStepsOf Q plan = AllByRecursion (IsStageOf Q) plan.stages

-- what is asked of the mapping of each step, of its keys and of each node in it: where it comes
-- from, and what it says
abbrev pub IsStepFrom : (Origin → Type 0) → PlanStep → Type 0
IsStepFrom P step = AllByRecursion P (origins_of step.body)

abbrev pub AreStepsFrom : (Origin → Type 0) → Plan → Type 0
AreStepsFrom P = AreStepsOf (IsStepFrom P)

abbrev pub IsStepSaying : (Mark → Type 0) → PlanStep → Type 0
IsStepSaying S step = AllByRecursion S (marks_of step.body)

abbrev pub AreStepsSaying : (Mark → Type 0) → Plan → Type 0
AreStepsSaying S = AreStepsOf (IsStepSaying S)

-- the origins of a tree's keys `stages`, `jobs` and `steps`, and of all nodes and keys under them
abbrev pub job_origins : MarkedNode → List Origin
job_origins tree = flat_map origins_in (jobs_of tree)

abbrev pub StepsStandInTheTree : Type 0
StepsStandInTheTree =
    (whole : Expanded) (pipeline : Pipeline) (plan : Plan) →
    pipeline_of whole ≡ Ok pipeline → IsPlanOf pipeline (Ok plan) →
    AreStepsFrom (Contains (job_origins whole.tree)) plan

abbrev pub PlansExtendTheSame : Type 0
PlansExtendTheSame =
    (whole : Expanded) (pipeline : Pipeline) (plan : Plan) →
    pipeline_of whole ≡ Ok pipeline → IsPlanOf pipeline (Ok plan) → plan.extends ≡ whole.extends
