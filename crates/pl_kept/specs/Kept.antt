-- Which rows are kept of what has happened: at each place at most one.
use Rattle.std.specs.Prelude.{ℕ, nat_lt, List, map, slice_get, Option, Some, None}
use Rattle.std.specs.Prelude.{if◌then◌else◌}
use Rattle.std.specs.Option.{option_and_then, option_map}
use Rattle.pl_base.specs.declared.place.FileKey.{FileKey}
use Rattle.pl_base.specs.declared.resource.ResourceKey.{ResourceKey}
use Rattle.pl_base.specs.declared.row.Row.{Row}
use Rattle.pl_facts.specs.Sizes.{counted}
use Rattle.pl_facts.specs.declared.fact.Fact.{Fact}
use Rattle.pl_facts.specs.declared.fact.QueuedRun.{QueuedRun}
use Rattle.pl_plan.specs.declared.plan.PlanJob.{PlanJob}
use Rattle.pl_plan.specs.declared.plan.PlanStage.{PlanStage}
use Rattle.pl_journal.specs.Log.{Log, last_moment, last_run, version}
use Rattle.pl_journal.specs.Runs.{canceling, decision, job_end, queueing, run_told, stage_end}
use Rattle.pl_journal.specs.Runs.{stage_start, taking, verdict_told}
use Rattle.pl_journal.specs.Settings.{agent_set, by, file, pipeline, principal_set, resource_set}
use Rattle.pl_keeper.specs.Rows.{row_of}
use Rattle.pl_keeper.specs.declared.records.Record.{Record}
use Rattle.pl_keeper.specs.declared.records.Record.TheVariants as kept
use Rattle.pl_kept.specs.Told.{job_end_told, moment_of, stage_end_told, taking_told, used_file}

-- the place of a row: its table, and the fields of its key
pub data Where : Type 0 where
  File : FileKey → Where
  Pipeline : List ℕ → Where
  Resource : ResourceKey → Where
  Principal : List ℕ → Where
  Agent : List ℕ → Where
  Run : ℕ → Where
  Stage : ℕ → ℕ → Where
  Job : ℕ → ℕ → ℕ → Where
  Decision : ℕ → ℕ → List ℕ → Where

-- ---- what is planned

-- a stage of a run that was queued, and a job of it, by their places in the plan's lists
abbrev pub planned_stage : ℕ → ℕ → List Fact → Option PlanStage
planned_stage run stage facts = option_and_then
    (λ told. slice_get told.compiled.plan.stages stage) (by run_told (queueing run facts))

abbrev pub planned_job : ℕ → ℕ → ℕ → List Fact → Option PlanJob
planned_job run stage job facts = option_and_then (λ told. slice_get told.jobs job)
    (planned_stage run stage facts)

-- ---- what is kept at a place, a line a table

-- a file that is there, with its text
abbrev pub file_kept : FileKey → List Fact → Option Record
file_kept key facts = option_map (λ text. kept.File (record { key = key; text = text }))
    (file key facts)

-- what was set, as it was set last: what is built in has no row until a fact has set it
abbrev pub pipeline_kept : List ℕ → List Fact → Option Record
pipeline_kept name facts = option_map (λ told. kept.Pipeline (record {
  name = name;
  repo = told.repo;
  path = told.path;
})) (pipeline name facts)

abbrev pub resource_kept : ResourceKey → List Fact → Option Record
resource_kept key facts = option_map (λ told. kept.Resource (record {
  key = key;
  exclusive = told.exclusive;
  pipelines = told.pipelines;
  checks = told.checks;
})) (resource_set key facts)

abbrev pub principal_kept : List ℕ → List Fact → Option Record
principal_kept name facts = option_map (λ told. kept.Principal (record {
  name = name;
  roles = told.roles;
  digest = told.digest;
})) (principal_set name facts)

abbrev pub agent_kept : List ℕ → List Fact → Option Record
agent_kept name facts = option_map (λ told. kept.Agent (record {
  name = name;
  pool = told.pool;
  capabilities = told.capabilities;
})) (agent_set name facts)

-- a run that was queued: what it was compiled from, without its plan, and when it was canceled
abbrev pub run_record : ℕ → Option ℕ → ℕ → QueuedRun → Record
run_record run canceled moment told = kept.Run (record {
  run = run;
  pipeline = told.pipeline;
  requester = told.requester;
  moment = moment;
  root = told.compiled.sources.root;
  arguments = told.compiled.sources.arguments;
  files = map used_file told.compiled.sources.files;
  canceled = canceled;
})

abbrev pub queued_kept : ℕ → Option ℕ → Fact → Option Record
queued_kept run canceled fact = option_map (run_record run canceled fact.moment)
    (run_told fact.event)

abbrev pub run_kept : ℕ → List Fact → Option Record
run_kept run facts = option_and_then
    (queued_kept run (option_map moment_of (canceling run facts))) (queueing run facts)

-- a stage of its plan: when it was started, and how it ended
abbrev pub stage_kept : ℕ → ℕ → List Fact → Option Record
stage_kept run stage facts = option_map (λ _. kept.Stage (record {
  run = run;
  position = stage;
  started = option_map moment_of (stage_start run stage facts);
  ended = stage_end_told (stage_end run stage facts);
})) (planned_stage run stage facts)

-- a job of its plan: who took it, and how it ended by itself; where its stage ended without a
-- start, the stage's row tells that
abbrev pub job_kept : ℕ → ℕ → ℕ → List Fact → Option Record
job_kept run stage job facts = option_map (λ _. kept.Job (record {
  run = run;
  stage = stage;
  position = job;
  taken = taking_told (taking run stage job facts);
  ended = job_end_told (job_end run stage job facts);
})) (planned_job run stage job facts)

-- a decision about a stage
abbrev pub decided_kept : ℕ → ℕ → List ℕ → Fact → Option Record
decided_kept run stage approver fact = option_map (λ approve. kept.Decision (record {
  run = run;
  stage = stage;
  approver = approver;
  approve = approve;
  moment = fact.moment;
})) (verdict_told fact.event)

abbrev pub decision_kept : ℕ → ℕ → List ℕ → List Fact → Option Record
decision_kept run stage approver facts = option_and_then (decided_kept run stage approver)
    (decision run stage approver facts)

-- ---- all tables

abbrev pub kept_at : Where → List Fact → Option Record
kept_at (File key) facts = file_kept key facts
kept_at (Pipeline name) facts = pipeline_kept name facts
kept_at (Resource key) facts = resource_kept key facts
kept_at (Principal name) facts = principal_kept name facts
kept_at (Agent name) facts = agent_kept name facts
kept_at (Run run) facts = run_kept run facts
kept_at (Stage run stage) facts = stage_kept run stage facts
kept_at (Job run stage job) facts = job_kept run stage job facts
kept_at (Decision run stage approver) facts = decision_kept run stage approver facts

-- the row that stands at a place, if one does
abbrev pub row_at : Where → List Fact → Option Row
row_at place facts = option_map row_of (kept_at place facts)

-- The service's numbers, from the first change of a row on: the moment of the last entry, the
-- number of the last run, the version of the files, and the number of the next change.
abbrev pub numbers_kept : ℕ → Log → Option Record
numbers_kept change log = if nat_lt 0 change then Some (kept.Meta (record {
  moment = last_moment log;
  run = last_run log;
  version = counted (version log);
  change = change;
})) else None
