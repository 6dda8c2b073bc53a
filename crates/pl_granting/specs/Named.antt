-- Jobs of runs: by their places, and as a request names them, which is by the run's number, the
-- stage's name and the job's label, exactly.
use Rattle.std.specs.Prelude.{◌≡◌, ℕ, List, Option, Some, slice_get}
use Rattle.std.specs.List.{position}
use Rattle.std.specs.Option.{option_and_then, option_map}
use Rattle.pl_base.specs.Texts.{is}
use Rattle.pl_facts.specs.declared.fact.Fact.{Fact}
use Rattle.pl_facts.specs.declared.fact.QueuedRun.{QueuedRun}
use Rattle.pl_journal.specs.Runs.{queueing, run_told}
use Rattle.pl_journal.specs.Settings.{by}
use Rattle.pl_plan.specs.Labels.{label}
use Rattle.pl_plan.specs.declared.plan.PlanJob.{PlanJob}
use Rattle.pl_plan.specs.declared.plan.PlanStage.{PlanStage}
use Rattle.pl_requests.specs.declared.request.JobName.{JobName}

-- ---- a job of a queued run, by its places, with what its run's plan says of it

pub record JobOf : Type 0 where
  pub run : ℕ
  pub stage : ℕ
  pub job : ℕ
  pub queued : QueuedRun
  pub staged : PlanStage
  pub planned : PlanJob

-- the run was queued so, and its plan has this job at this place
pub record IsJobOf (facts : List Fact) (at : JobOf) : Type 0 where
  pub queued : by run_told (queueing at.run facts) ≡ Some at.queued
  pub staged : slice_get at.queued.compiled.plan.stages at.stage ≡ Some at.staged
  pub planned : slice_get at.staged.jobs at.job ≡ Some at.planned

-- ---- by its places

abbrev pub job_in : ℕ → ℕ → QueuedRun → PlanStage → ℕ → Option JobOf
job_in run stage queued staged job = option_map (λ planned. record {
  run = run;
  stage = stage;
  job = job;
  queued = queued;
  staged = staged;
  planned = planned;
}) (slice_get staged.jobs job)

abbrev pub job_at : ℕ → ℕ → ℕ → List Fact → Option JobOf
job_at run stage job facts = option_and_then
    (λ queued. option_and_then (λ staged. job_in run stage queued staged job)
    (slice_get queued.compiled.plan.stages stage))
    (by run_told (queueing run facts))

-- ---- by names

abbrev pub stage_named : List ℕ → List PlanStage → Option ℕ
stage_named name stages = position (λ one. is one.name name) stages

abbrev pub job_labelled : List ℕ → List PlanJob → Option ℕ
job_labelled text jobs = position (λ one. is (label one) text) jobs

abbrev pub job_in_stage : JobName → QueuedRun → ℕ → Option JobOf
job_in_stage name queued stage = option_and_then
    (λ staged. option_and_then (job_in name.run stage queued staged)
    (job_labelled name.job staged.jobs))
    (slice_get queued.compiled.plan.stages stage)

-- the job of that name, or None where the run, the stage or the label isn't there
abbrev pub job_named : JobName → List Fact → Option JobOf
job_named name facts = option_and_then
    (λ queued. option_and_then (job_in_stage name queued)
    (stage_named name.stage queued.compiled.plan.stages))
    (by run_told (queueing name.run facts))
