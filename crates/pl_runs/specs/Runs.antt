-- Runs that are read and canceled (Microsoft Learn, Azure Pipelines, "Pipeline runs").
use Rattle.std.specs.Prelude.{ℕ, Bool, List, map, length, Option, is_some, slice_get}
use Rattle.std.specs.Prelude.{if◌then◌else◌}
use Rattle.std.specs.List.{range_with_len}
use Rattle.std.specs.Option.{option_map_or}
use Rattle.pl_answers.specs.Answers.{empty_object, refused, with_fact, with_json, without_fact}
use Rattle.pl_answers.specs.declared.answer.Answer.{Answer}
use Rattle.pl_facts.specs.declared.fact.Event.TheVariants as event
use Rattle.pl_facts.specs.declared.fact.Fact.{Fact}
use Rattle.pl_facts.specs.declared.fact.QueuedRun.{QueuedRun}
use Rattle.pl_journal.specs.Runs.{canceling, job_ending, outcome_told, queueing, rule_told}
use Rattle.pl_journal.specs.Runs.{run_told, stage_end, stage_start, taker_told, taking}
use Rattle.pl_journal.specs.Settings.{by}
use Rattle.pl_objects.specs.Runs.{run_object}
use Rattle.pl_objects.specs.declared.status.JobStatus.{JobStatus}
use Rattle.pl_objects.specs.declared.status.Progress.{Progress}
use Rattle.pl_objects.specs.declared.status.Progress.TheVariants.{Waiting, Running, Ended}
use Rattle.pl_objects.specs.declared.status.RunStatus.{RunStatus}
use Rattle.pl_objects.specs.declared.status.StageStatus.{StageStatus}
use Rattle.pl_open_runs.specs.Open.{is_open}
use Rattle.pl_plan.specs.declared.plan.PlanStage.{PlanStage}
use Rattle.pl_rules.specs.declared.rule.Rule.TheVariants as rules

-- ---- how a run stands

abbrev pub unended : Bool → Progress
unended begun = if begun then Running else Waiting

-- how far something has come, by whether it has begun, and by the fact that ended it
abbrev pub progress : Bool → Option Fact → Progress
progress begun ending = option_map_or (λ outcome. Ended outcome (by rule_told ending))
    (by outcome_told ending) (unended begun)

-- how many jobs the stage at a place has
abbrev pub job_count : List PlanStage → ℕ → ℕ
job_count stages stage =
    option_map_or (λ planned. length planned.jobs) (slice_get stages stage) 0

module _ (facts : List Fact) (run : ℕ) where
  -- a job begins when an agent takes it, and shows the agent from then on
  abbrev pub job_status : ℕ → ℕ → JobStatus
  job_status stage job = record {
    agent = by taker_told (taking run stage job facts);
    progress =
        progress (is_some (taking run stage job facts)) (job_ending run stage job facts);
  }

  abbrev pub jobs_status : ℕ → ℕ → List JobStatus
  jobs_status stage jobs = map (job_status stage) (range_with_len 0 jobs)

  abbrev pub stage_status : List PlanStage → ℕ → StageStatus
  stage_status stages stage = record {
    progress = progress (is_some (stage_start run stage facts)) (stage_end run stage facts);
    jobs = jobs_status stage (job_count stages stage);
  }

  abbrev pub stages_status : List PlanStage → List StageStatus
  stages_status stages = map (stage_status stages) (range_with_len 0 (length stages))

  abbrev pub run_status : List PlanStage → RunStatus
  run_status stages = record {
    canceled = is_some (canceling run facts);
    stages = stages_status stages;
  }

-- ---- reading

abbrev pub read_queued : List Fact → ℕ → QueuedRun → Answer
read_queued facts run queued = without_fact (with_json 200
    (run_object queued (run_status facts run queued.compiled.plan.stages)))

abbrev pub read_run : List Fact → ℕ → Answer
read_run facts run = option_map_or (read_queued facts run) (by run_told (queueing run facts))
    (refused 404 rules.RunUnknown)

-- ---- canceling: where it is canceled already it stays so, and what has ended isn't canceled

abbrev pub cancel_queued : List Fact → ℕ → Answer
cancel_queued facts run = if is_some (canceling run facts) then without_fact empty_object
    else if is_open run facts then with_fact empty_object (event.RunCanceled run)
    else refused 409 rules.RunEnded

abbrev pub cancel : List Fact → ℕ → Answer
cancel facts run = if is_some (by run_told (queueing run facts)) then cancel_queued facts run
    else refused 404 rules.RunUnknown
