-- A job as an agent gets it, as JSON.
use Rattle.std.specs.Prelude.{ℕ, List, [], ◌∷◌, ◌++◌, map, codes}
use Rattle.pl_json.specs.declared.json.Json.{Json}
use Rattle.pl_json.specs.declared.json.Json.TheVariants as json
use Rattle.pl_json.specs.Members.{member}
use Rattle.pl_json.specs.Objects.{object}
use Rattle.pl_objects.specs.Steps.{step_object}
use Rattle.pl_plan.specs.declared.plan.PlanJob.{PlanJob}
use Rattle.pl_plan.specs.declared.plan.PlanStage.{PlanStage}
use Rattle.pl_plan.specs.Labels.{label}
use Rattle.pl_refusals.specs.Rows.{number, text, texts}

-- a variable is an array of its name and its value
abbrev pub variable_array : List ℕ × List ℕ → Json
variable_array told = json.Array (json.Text told.0 ∷ json.Text told.1 ∷ [])

-- a job of a run: the groups of variables of its stage and then its own, its label, its steps, its
-- timeout in minutes, and its variables
abbrev pub job_object : ℕ → PlanStage → PlanJob → List (List ℕ × List ℕ) → Json
job_object run stage job variables =
    object (member (codes "groups") (texts (stage.groups ++ job.groups))
    ∷ text (codes "job") (label job)
    ∷ number (codes "run") run
    ∷ text (codes "stage") stage.name
    ∷ member (codes "steps") (json.Array (map step_object job.steps))
    ∷ number (codes "timeout") job.timeout
    ∷ member (codes "variables") (json.Array (map variable_array variables)) ∷ [])
