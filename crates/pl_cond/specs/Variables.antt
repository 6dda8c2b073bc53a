-- The variables of a stage or of a job (Microsoft Learn, "Define variables" and "Predefined
-- variables"): those of the pipeline, of the stage, of the job and of its leg, and three of the
-- run.
use Rattle.std.specs.Prelude.{ℕ, List, [], ◌∷◌, ◌++◌, map, fold, codes, slice_get, Option, Some}
use Rattle.std.specs.Prelude.{None}
use Rattle.std.specs.Prelude.{Result, Ok, Err, ◌==◌, if◌then◌else◌}
use Rattle.std.specs.Option.{option_map_or}
use Rattle.pl_base.specs.declared.value.Value.{Value, Null, Str}
use Rattle.pl_base.specs.declared.value.MarkedNode.{MarkedNode}
use Rattle.pl_expr.specs.Conversions.{cast_text}
use Rattle.pl_expr.specs.declared.expr.Expr.{Expr}
use Rattle.pl_eval.specs.declared.fault.EvalCode.{EvalCode}
use Rattle.pl_eval.specs.Means.{means}
use Rattle.pl_plan.specs.declared.plan.Plan.{Plan}
use Rattle.pl_results.specs.declared.members.PlanNode.{PlanNode}
use Rattle.pl_results.specs.declared.members.PlanNode.TheVariants.{Stage, Job}
use Rattle.pl_results.specs.declared.view.RunView.{RunView}
use Rattle.pl_results.specs.Nodes.{jobs_of}
use Rattle.pl_schema_parts.specs.declared.pipeline.Variable.{Variable}
use Rattle.pl_cond.specs.declared.variables.Variable.{Variable as Evaluated}
use Rattle.pl_cond.specs.Contexts.{here_in, known_at}
use Rattle.pl_cond.specs.Placing.{placed}

abbrev pub evaluated : List ℕ → Value → Evaluated
evaluated name value = record { name = name; value = value }

-- ---- those that are written

abbrev pub stage_variables : Plan → ℕ → List Variable
stage_variables plan stage = option_map_or (λ one. one.variables) (slice_get plan.stages stage) []

abbrev pub job_variables : Plan → ℕ → ℕ → List Variable
job_variables plan stage job =
    option_map_or (λ one. one.variables) (slice_get (jobs_of plan stage) job) []

-- the pipeline's and the stage's, then the job's and the leg's
abbrev pub written_at : Plan → PlanNode → List Variable
written_at plan (Stage stage) = stage_variables plan stage
written_at plan (Job stage job) = stage_variables plan stage ++ job_variables plan stage job

-- ---- their values: a text, or that of the expression between `$[` and `]`, which knows the
-- variables before it; Null where the expression has a fault

abbrev pub value_or_null : Result MarkedNode EvalCode → Value
value_or_null (Ok node) = node.value
value_or_null (Err code) = Null

abbrev pub late_value : Plan → RunView → PlanNode → List Evaluated → Expr → Value
late_value plan view node before late =
    value_or_null (means (known_at plan view node before) (here_in plan) late)

abbrev pub value_of : Plan → RunView → PlanNode → List Evaluated → List ℕ → Option Expr → Value
value_of plan view node before text None = Str text
value_of plan view node before text (Some late) = late_value plan view node before late

abbrev pub with_variable : Plan → RunView → PlanNode → List Evaluated → Variable → List Evaluated
with_variable plan view node before variable = placed before
    (evaluated variable.name (value_of plan view node before variable.value variable.late))

-- in order
abbrev pub written_variables : Plan → RunView → PlanNode → List Evaluated
written_variables plan view node = fold (with_variable plan view node) [] (written_at plan node)

-- ---- those of the run, which win: its ref, the ref's last segment, and that it was queued by hand

abbrev pub last_segment : List ℕ → List ℕ → List ℕ
last_segment segment [] = segment
last_segment segment (byte ∷ bytes) =
    if byte == 47 then last_segment [] bytes else last_segment (segment ++ byte ∷ []) bytes

abbrev pub run_variables : List ℕ → List Evaluated
run_variables git_ref =
    evaluated (codes "Build.SourceBranch") (Str git_ref)
    ∷ evaluated (codes "Build.SourceBranchName") (Str (last_segment [] git_ref))
    ∷ evaluated (codes "Build.Reason") (Str (codes "Manual"))
    ∷ []

abbrev pub variables_at : Plan → RunView → PlanNode → List Evaluated
variables_at plan view node =
    fold placed (written_variables plan view node) (run_variables plan.root.git_ref)

-- ---- the variables that a job is handed: those that are written, as texts

abbrev pub as_text : Evaluated → List ℕ × List ℕ
as_text variable = (variable.name, cast_text variable.value)

unfoldable pub variables_of : Plan → RunView → ℕ → ℕ → List (List ℕ × List ℕ)
variables_of plan view stage job = map as_text (written_variables plan view (Job stage job))
