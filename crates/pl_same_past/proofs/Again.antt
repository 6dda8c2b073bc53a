-- Where the same is found, the same is kept.
use Rattle.std.proofs.Common.{◌≡◌, ◌++◌, ℕ, List, Option, slice_get, refl, sym, ap, ◌∙◌}
use Rattle.std.specs.Option.{option_and_then, option_map}
use Rattle.pl_base.specs.declared.place.FileKey.{FileKey}
use Rattle.pl_facts.specs.declared.fact.Fact.{Fact}
use Rattle.pl_facts.specs.declared.fact.QueuedRun.{QueuedRun}
use Rattle.pl_journal.specs.Runs.{run_told}
use Rattle.pl_journal.specs.Settings.{by}
use Rattle.pl_keeper.specs.declared.records.Record.TheVariants as kept
use Rattle.pl_kept.specs.Kept.{decided_kept, kept_at, planned_job, planned_stage, queued_kept, Where}
use Rattle.pl_kept.specs.Kept.{Agent, Decision, File, Job, Pipeline, Principal, Resource, Run, Stage}
use Rattle.pl_kept.specs.Told.{job_end_told, moment_of, stage_end_told, taking_told}
use Rattle.pl_plan.specs.declared.plan.PlanStage.{PlanStage}
use Rattle.pl_requests.specs.declared.settings.AgentSetting.{AgentSetting}
use Rattle.pl_requests.specs.declared.settings.PipelineSetting.{PipelineSetting}
use Rattle.pl_requests.specs.declared.settings.PrincipalSetting.{PrincipalSetting}
use Rattle.pl_requests.specs.declared.settings.ResourceSetting.{ResourceSetting}
use Rattle.pl_same_step.specs.Below.pl_same_lookups.specs.Alike.{LookAlike}
use Rattle.pl_same_step.specs.Below.pl_same_lookups.proofs.More.{alike_behind}
use Rattle.pl_same_step.proofs.Seeing.{file_same}

module _ (facts other : List Fact) (alike : LookAlike facts other) where
  stage_planned : (run stage : ℕ) → planned_stage run stage facts ≡ planned_stage run stage other
  stage_planned run stage = λ i. option_and_then
      (λ (told : QueuedRun). slice_get told.compiled.plan.stages stage)
      (by run_told (alike.queueings run i))

  job_planned : (run stage job : ℕ) →
      planned_job run stage job facts ≡ planned_job run stage job other
  job_planned run stage job = λ i. option_and_then
      (λ (told : PlanStage). slice_get told.jobs job) (stage_planned run stage i)

  kept_same : (here : Where) → kept_at here facts ≡ kept_at here other
  kept_same (File key) = λ i. option_map (λ text. kept.File (record { key = key; text = text }))
      (file_same facts other alike key i)
  kept_same (Pipeline name) = λ i. option_map (λ (told : PipelineSetting). kept.Pipeline (record {
    name = name;
    repo = told.repo;
    path = told.path;
  })) (alike.pipelines name i)
  kept_same (Resource key) = λ i. option_map (λ (told : ResourceSetting). kept.Resource (record {
    key = key;
    exclusive = told.exclusive;
    pipelines = told.pipelines;
    checks = told.checks;
  })) (alike.resources key i)
  kept_same (Principal name) = λ i. option_map
      (λ (told : PrincipalSetting). kept.Principal (record {
        name = name;
        roles = told.roles;
        digest = told.digest;
      })) (alike.principals name i)
  kept_same (Agent name) = λ i. option_map (λ (told : AgentSetting). kept.Agent (record {
    name = name;
    pool = told.pool;
    capabilities = told.capabilities;
  })) (alike.agents name i)
  kept_same (Run run) = λ i. option_and_then
      (queued_kept run (option_map moment_of (alike.cancelings run i))) (alike.queueings run i)
  kept_same (Stage run stage) = λ i. option_map (λ _. kept.Stage (record {
    run = run;
    position = stage;
    started = option_map moment_of (alike.starts run stage i);
    ended = stage_end_told (alike.ends run stage i);
  })) (stage_planned run stage i)
  kept_same (Job run stage job) = λ i. option_map (λ _. kept.Job (record {
    run = run;
    stage = stage;
    position = job;
    taken = taking_told (alike.takings run stage job i);
    ended = job_end_told (alike.job_ends run stage job i);
  })) (job_planned run stage job i)
  kept_same (Decision run stage name) = λ i. option_and_then (decided_kept run stage name)
      (alike.decisions run stage name i)

-- and so it is behind the same facts
pub kept_again : (facts other added : List Fact) → LookAlike facts other → (here : Where) →
    kept_at here (facts ++ added) ≡ kept_at here (other ++ added)
kept_again facts other added alike here = kept_same (facts ++ added) (other ++ added)
    (alike_behind facts other added alike) here
