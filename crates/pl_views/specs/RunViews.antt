-- A run as its conditions see it.
use Rattle.std.specs.Prelude.{ℕ, List, [], length, map, is_some, unwrap_or}
use Rattle.std.specs.List.{range_with_len}
use Rattle.pl_journal.specs.Below.pl_facts.specs.declared.fact.Fact.{Fact}
use Rattle.pl_journal.specs.Runs.{canceling, job_ending, outcome_told, outputs_told, stage_end}
use Rattle.pl_journal.specs.Settings.{by}
use Rattle.pl_plan.specs.declared.plan.Plan.{Plan}
use Rattle.pl_results.specs.Nodes.{jobs_of}
use Rattle.pl_results.specs.declared.view.JobView.{JobView}
use Rattle.pl_results.specs.declared.view.RunView.{RunView}

-- the places of a list
abbrev pub places : {X : Type 0} → List X → List ℕ
places items = range_with_len 0 (length items)

-- a job that has ended, by its own end or by its stage's without a start: how, and its outputs
abbrev pub job_view : ℕ → ℕ → List Fact → ℕ → JobView
job_view run stage facts job = record {
  result = by outcome_told (job_ending run stage job facts);
  outputs = unwrap_or (by outputs_told (job_ending run stage job facts)) [];
}

-- the jobs of a stage by its place
abbrev pub job_views : ℕ → Plan → List Fact → ℕ → List JobView
job_views run plan facts stage = map (job_view run stage facts) (places (jobs_of plan stage))

abbrev pub run_view : Plan → ℕ → List Fact → RunView
run_view plan run facts = record {
  canceled = is_some (canceling run facts);
  stages = map (λ stage. by outcome_told (stage_end run stage facts)) (places plan.stages);
  jobs = map (job_views run plan facts) (places plan.stages);
}
