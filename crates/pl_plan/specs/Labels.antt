-- By which name a job is told.
use Rattle.std.specs.Prelude.{ℕ, List, ◌∷◌, ◌++◌, Option, Some, None}
use Rattle.pl_plan.specs.declared.plan.PlanJob.{PlanJob}

-- a job by its name; a leg of one by the job's name and its own, with a dot between, which is this
-- project's own
abbrev pub label_by : List ℕ → Option (List ℕ) → List ℕ
label_by name None = name
label_by name (Some leg) = name ++ 46 ∷ leg

abbrev pub label : PlanJob → List ℕ
label job = label_by job.name job.leg
