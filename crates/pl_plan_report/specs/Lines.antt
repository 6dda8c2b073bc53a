-- The text of a plan: a line for the template that it extends, for each stage, for each of its jobs
-- and for each of their steps.
use Rattle.std.specs.Prelude.{ℕ, List, [], ◌∷◌, ◌++◌, map, flat_map, codes, Option, Some, None}
use Rattle.pl_base.specs.declared.origin.Crossing.{Crossing}
use Rattle.pl_base.specs.declared.place.FileKey.{FileKey}
use Rattle.pl_plan.specs.Labels.{label}
use Rattle.pl_plan.specs.declared.plan.Plan.{Plan}
use Rattle.pl_plan.specs.declared.plan.PlanJob.{PlanJob}
use Rattle.pl_plan.specs.declared.plan.PlanStage.{PlanStage}
use Rattle.pl_plan.specs.declared.plan.PlanStep.{PlanStep}
use Rattle.pl_report.specs.Places.{and_word, key_text, place_text}
use Rattle.pl_plan_report.specs.Lists.{depends_text, uses_text}
use Rattle.pl_plan_report.specs.Words.{behaviour_word, crossing_word}

-- the template that the root file extends
abbrev pub extends_line : Option FileKey → List ℕ
extends_line None = []
extends_line (Some file) = codes "extends" ++ and_word (key_text file) ++ 10 ∷ []

-- ---- steps: where the mapping is written, and a word for each border that it crossed since

abbrev pub crossings_text : List Crossing → List ℕ
crossings_text crossings = flat_map (λ crossing. and_word (crossing_word crossing)) crossings

abbrev pub step_line : PlanStep → List ℕ
step_line step =
    codes "step" ++ and_word step.form
    ++ and_word (place_text step.body.origin.source)
    ++ codes " via" ++ crossings_text step.body.origin.crossings ++ 10 ∷ []

-- ---- jobs, by their labels

abbrev pub job_line : List (List ℕ) → PlanJob → List ℕ
job_line labels job =
    codes "job" ++ and_word (label job)
    ++ depends_text labels job.depends
    ++ codes " pool" ++ and_word job.pool ++ 10 ∷ []

abbrev pub job_text : List (List ℕ) → PlanJob → List ℕ
job_text labels job = job_line labels job ++ flat_map step_line job.steps

abbrev pub jobs_text : List PlanJob → List ℕ
jobs_text jobs = flat_map (job_text (map label jobs)) jobs

-- ---- stages, by their names

abbrev pub stage_line : List (List ℕ) → PlanStage → List ℕ
stage_line names stage =
    codes "stage" ++ and_word stage.name
    ++ depends_text names stage.depends
    ++ codes " lock" ++ and_word (behaviour_word stage.behaviour)
    ++ uses_text stage.uses ++ 10 ∷ []

abbrev pub stage_text : List (List ℕ) → PlanStage → List ℕ
stage_text names stage = stage_line names stage ++ jobs_text stage.jobs

abbrev pub stages_text : List PlanStage → List ℕ
stages_text stages = flat_map (stage_text (map (λ stage. stage.name) stages)) stages

-- ---- the whole

abbrev pub plan_text : Plan → List ℕ
plan_text plan = extends_line plan.extends ++ stages_text plan.stages
