-- The results at which the status functions of a condition look (Microsoft Learn, "Expressions",
-- Job status check functions).
use Rattle.std.specs.Prelude.{ℕ, Bool, true, ◌&&◌, List, [], ◌∷◌, ◌++◌, map, slice_get, Option}
use Rattle.std.specs.Prelude.{Some, None}
use Rattle.std.specs.Prelude.{is_none, unwrap_or, if◌then◌else◌}
use Rattle.std.specs.Option.{option_map, option_and_then}
use Rattle.std.specs.List.{list_any, filter_map}
use Rattle.pl_base.specs.declared.outcome.Outcome.{Outcome}
use Rattle.std.specs.FinMap as finite
use Rattle.pl_eval.specs.Known.{Known, same_name}
use Rattle.pl_eval.specs.Statuses.{was_run}
use Rattle.pl_plan.specs.Laws.{waits_of_stages, waits_of_jobs}
use Rattle.pl_plan.specs.declared.plan.Plan.{Plan}
use Rattle.pl_plan.specs.declared.plan.PlanJob.{PlanJob}
use Rattle.pl_plan.specs.declared.plan.PlanStage.{PlanStage}
use Rattle.pl_results.specs.declared.members.Member.{Member}
use Rattle.pl_results.specs.declared.members.PlanNode.{PlanNode}
use Rattle.pl_results.specs.declared.members.PlanNode.TheVariants.{Stage, Job}
use Rattle.pl_results.specs.declared.view.JobView.{JobView}
use Rattle.pl_results.specs.declared.view.RunView.{RunView}
use Rattle.pl_results.specs.Combining.{combined, worse}
use Rattle.pl_results.specs.Runs.{views_of, result_at, view_result}
use Rattle.pl_results.specs.Nodes.{jobs_of}
use Rattle.pl_results.specs.Transitive.{transitive}

abbrev pub member : List ℕ → Option Outcome → Member
member name result = record { name = name; result = result }

-- ---- all that a stage, or a job within its stage, waits for, directly or through others

abbrev pub stage_member : Plan → RunView → ℕ → Option Member
stage_member plan view at =
    option_map (λ stage. member stage.name (result_at view.stages at)) (slice_get plan.stages at)

abbrev pub stage_members : Plan → RunView → ℕ → List Member
stage_members plan view stage =
    filter_map (stage_member plan view) (transitive (waits_of_stages plan.stages) stage)

abbrev pub job_member : List PlanJob → List JobView → ℕ → Option Member
job_member jobs views at =
    option_map (λ job. member job.name (view_result (slice_get views at))) (slice_get jobs at)

-- each leg by itself
abbrev pub job_members : List PlanJob → List JobView → ℕ → List Member
job_members jobs views job =
    filter_map (job_member jobs views) (transitive (waits_of_jobs jobs) job)

abbrev pub members_of : Plan → RunView → PlanNode → List Member
members_of plan view (Stage stage) = stage_members plan view stage
members_of plan view (Job stage job) =
    job_members (jobs_of plan stage) (views_of view stage) job

-- ---- by name: a job's result is the combined one of its legs, once all of them have ended

abbrev pub combined_if_any : List Outcome → Option Outcome
combined_if_any [] = None
combined_if_any (first ∷ results) = Some (combined (first ∷ results))

-- those that the test picks
abbrev pub result_by : (Member → Bool) → List Member → Option Outcome
result_by picks members =
    if list_any (λ one. picks one && is_none one.result) members then None
    else combined_if_any (filter_map (λ one. if picks one then one.result else None) members)

-- those of that name, the case of ASCII's letters aside
unfoldable pub result_of : List Member → List ℕ → Option Outcome
result_of members name = result_by (λ one. same_name name one.name) members

-- the results so far and one more
abbrev pub also : Option Outcome → Option Outcome → Option Outcome
also None one = one
also (Some all) None = Some all
also (Some all) (Some one) = Some (worse all one)

-- a name and its result
abbrev pub named_result : List Member → Member → Option (List ℕ × Outcome)
named_result members one = option_map (λ result. (one.name, result)) (result_of members one.name)

abbrev pub named_results : List Member → List (List ℕ × Outcome)
named_results members = filter_map (named_result members) members

abbrev pub all_results : List Member → List (Option Outcome)
all_results members = map (λ one. one.result) members

-- ---- what a status function looks at

-- an expression that has no names, of one that waits for these
abbrev pub known_of : Bool → List Member → Known
known_of canceled members = record {
  roots = finite.empty;
  canceled = canceled;
  all = all_results members;
  named = named_results members;
}

abbrev pub results_under : List Member → List (List ℕ) → List (Option Outcome)
results_under members [] = all_results members
results_under members (name ∷ names) = map (result_of members) (name ∷ names)

abbrev pub any_run : List Member → List (List ℕ) → Bool
any_run members [] = true
any_run members (name ∷ names) = list_any was_run (map (result_of members) (name ∷ names))
