-- Whether a stage or a job is to run (Microsoft Learn, "Specify conditions").
use Rattle.std.specs.Prelude.{ℕ, Bool, false, List, [], slice_get, Option, Some, None, Result, Ok}
use Rattle.std.specs.Prelude.{Err}
use Rattle.std.specs.Option.{option_and_then}
use Rattle.pl_base.specs.declared.value.MarkedNode.{MarkedNode}
use Rattle.pl_expr.specs.Conversions.{bool_of}
use Rattle.pl_expr.specs.declared.expr.Expr.{Expr}
use Rattle.pl_expr.specs.declared.expr.Function.TheVariants.{Succeeded}
use Rattle.pl_eval.specs.declared.fault.EvalCode.{EvalCode}
use Rattle.pl_eval.specs.Means.{means}
use Rattle.pl_eval.specs.Statuses.{status_of}
use Rattle.pl_plan.specs.declared.plan.Plan.{Plan}
use Rattle.pl_results.specs.declared.members.PlanNode.{PlanNode}
use Rattle.pl_results.specs.declared.members.PlanNode.TheVariants.{Stage, Job}
use Rattle.pl_results.specs.declared.view.RunView.{RunView}
use Rattle.pl_results.specs.Nodes.{jobs_of}
use Rattle.pl_cond.specs.Contexts.{here_in, known_at}
use Rattle.pl_cond.specs.Variables.{variables_at}

abbrev pub condition_at : Plan → PlanNode → Option Expr
condition_at plan (Stage stage) =
    option_and_then (λ one. one.condition) (slice_get plan.stages stage)
condition_at plan (Job stage job) =
    option_and_then (λ one. one.condition) (slice_get (jobs_of plan stage) job)

-- the value counts as its cast to Boolean, and a fault is False
abbrev pub counts : Result MarkedNode EvalCode → Bool
counts (Ok node) = bool_of node.value
counts (Err code) = false

-- without a condition it is `succeeded()`
abbrev pub holds_by : Option Expr → Plan → RunView → PlanNode → Bool
holds_by None plan view node =
    status_of (known_at plan view node (variables_at plan view node)) Succeeded []
holds_by (Some condition) plan view node = counts
    (means (known_at plan view node (variables_at plan view node)) (here_in plan) condition)

unfoldable pub holds : Plan → RunView → PlanNode → Bool
holds plan view node = holds_by (condition_at plan node) plan view node
