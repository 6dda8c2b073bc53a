-- What the names of conditions and of `$[ ]` variables stand for (Microsoft Learn, "Expressions",
-- Dependencies and Variables; "Specify conditions").
use Rattle.std.specs.Prelude.{◌≡◌, ℕ, List, [], ◌∷◌, ◌++◌, map, codes, slice_get, Option, Some}
use Rattle.std.specs.Prelude.{None}
use Rattle.std.specs.Option.{option_map_or}
use Rattle.std.specs.FinMap as finite
use Rattle.pl_base.specs.declared.origin.Crossing.TheVariants.{Made}
use Rattle.pl_base.specs.declared.origin.Origin.{Origin}
use Rattle.pl_base.specs.declared.value.MarkedNode.{MarkedNode}
use Rattle.pl_expr.specs.declared.expr.Expr.{Expr}
use Rattle.pl_eval.specs.Known.{Known}
use Rattle.pl_eval.specs.Means.{means}
use Rattle.pl_base.specs.declared.value.Value.{Value}
use Rattle.pl_eval.specs.LookUps.{made}
use Rattle.pl_plan.specs.declared.plan.Plan.{Plan}
use Rattle.pl_results.specs.declared.members.PlanNode.{PlanNode}
use Rattle.pl_results.specs.declared.members.PlanNode.TheVariants.{Stage, Job}
use Rattle.pl_results.specs.declared.view.RunView.{RunView}
use Rattle.pl_results.specs.Members.{all_results, known_of, members_of, named_results}
use Rattle.pl_results.specs.Parts.{stage_parts, stage_groups, job_parts, direct_legs}
use Rattle.pl_results.specs.Nodes.{jobs_of}
use Rattle.pl_results.specs.Runs.{views_of}
use Rattle.pl_cond.specs.declared.variables.Variable.{Variable as Evaluated}
use Rattle.pl_cond.specs.declared.context.Context.{Context}
use Rattle.pl_cond.specs.Objects.{parts_value, groups_value, variables_value}

-- where the values of a plan's conditions come from: they are made, at the beginning of its root
abbrev pub here_in : Plan → Origin
here_in plan = record {
  source = record { file = plan.root; line = 1; col = 1 };
  crossings = Made ∷ [];
}

-- what the stage at a place waits for directly
abbrev pub stage_depends : Plan → ℕ → List ℕ
stage_depends plan stage = option_map_or (λ one. one.depends) (slice_get plan.stages stage) []

abbrev pub job_depends : Plan → ℕ → ℕ → List ℕ
job_depends plan stage job = option_map_or (λ one. one.depends) (slice_get (jobs_of plan stage) job)
    []

abbrev pub root : Origin → List ℕ → Value → List ℕ × MarkedNode
root here name value = (name, made here value)

-- `dependencies`: the direct ones; in a stage's expressions they are stages
abbrev pub stage_dependencies : Origin → Plan → RunView → ℕ → Value
stage_dependencies here plan view stage =
    parts_value here (stage_parts plan view (stage_depends plan stage))

-- in a job's they are the jobs of its stage
abbrev pub job_dependencies : Origin → Plan → RunView → ℕ → ℕ → Value
job_dependencies here plan view stage job = parts_value here
    (job_parts (direct_legs (jobs_of plan stage) (views_of view stage)
    (job_depends plan stage job)))

-- `stageDependencies`: the stages for which a job's stage waits directly, with their jobs
abbrev pub stages_of_job : Origin → Plan → RunView → ℕ → Value
stages_of_job here plan view stage =
    groups_value here (stage_groups plan view (stage_depends plan stage))

abbrev pub dependencies_at : Origin → Plan → RunView → PlanNode → Value
dependencies_at here plan view (Stage stage) = stage_dependencies here plan view stage
dependencies_at here plan view (Job stage job) = job_dependencies here plan view stage job

-- a stage doesn't see `stageDependencies`
abbrev pub stage_dependencies_at : Origin → Plan → RunView → PlanNode → Option Value
stage_dependencies_at here plan view (Stage stage) = None
stage_dependencies_at here plan view (Job stage job) = Some (stages_of_job here plan view stage)

-- a root that may be there
abbrev pub root_if : Origin → List ℕ → Option Value → List (List ℕ × MarkedNode)
root_if here name None = []
root_if here name (Some value) = root here name value ∷ []

-- each root by its name in upper case
abbrev pub roots_at : Origin → Plan → RunView → PlanNode → List Evaluated →
    List (List ℕ × MarkedNode)
roots_at here plan view node variables =
    root here (codes "DEPENDENCIES") (dependencies_at here plan view node)
    ∷ root_if here (codes "STAGEDEPENDENCIES") (stage_dependencies_at here plan view node)
    ++ root here (codes "VARIABLES") (variables_value here variables) ∷ []

-- what an expression of a stage or of a job knows beside those variables
abbrev pub known_at : Plan → RunView → PlanNode → List Evaluated → Known
known_at plan view node variables = record {
  roots = finite.from_entries (roots_at (here_in plan) plan view node variables);
  canceled = view.canceled;
  all = all_results (members_of plan view node);
  named = named_results (members_of plan view node);
}

-- ---- what stands for that while it is asked for

-- where values come from, and what is known of the run
pub record Fits (context : Context) : Type 0 where
  pub here : context.here ≡ here_in context.plan.now
  pub canceled : context.statuses.canceled ≡ context.view.now.canceled
  pub members : context.statuses.members ≡
      members_of context.plan.now context.view.now context.node

abbrev pub known_in : Context → List Evaluated → Known
known_in context variables =
    known_at context.plan.now context.view.now context.node variables

-- the same without names
abbrev pub bare_in : Context → Known
bare_in context = known_of context.statuses.canceled context.statuses.members

-- an expression that means the same beside any variables
abbrev pub NeedsNone : Expr → Type 0
NeedsNone expr = (plan : Plan) (view : RunView) (node : PlanNode) (some others : List Evaluated)
    (here : Origin) → means (known_at plan view node some) here expr ≡
    means (known_at plan view node others) here expr

abbrev pub AllNeedNone : List Expr → Type 0
AllNeedNone exprs = (plan : Plan) (view : RunView) (node : PlanNode) (some others : List Evaluated)
    (here : Origin) → map (means (known_at plan view node some) here) exprs ≡
    map (means (known_at plan view node others) here) exprs
