-- Which facts a row tells. A setting's row tells no moment: its fact has the moment 0.
use Rattle.std.specs.Prelude.{ℕ, ◌++◌, List, [], ◌∷◌, Option, Some, None}
use Rattle.std.specs.Option.{option_map, option_map_or, option_to_list}
use Rattle.pl_facts.specs.declared.fact.Event.{Event}
use Rattle.pl_facts.specs.declared.fact.Event.TheVariants as event
use Rattle.pl_facts.specs.declared.fact.Fact.{Fact}
use Rattle.pl_keeper.specs.declared.records.JobEnd.{JobEnd}
use Rattle.pl_keeper.specs.declared.records.KeptDecision.{KeptDecision}
use Rattle.pl_keeper.specs.declared.records.KeptJob.{KeptJob}
use Rattle.pl_keeper.specs.declared.records.KeptRun.{KeptRun}
use Rattle.pl_keeper.specs.declared.records.KeptStage.{KeptStage}
use Rattle.pl_keeper.specs.declared.records.Record.{Record}
use Rattle.pl_keeper.specs.declared.records.Record.TheVariants as kept
use Rattle.pl_keeper.specs.declared.records.StageEnd.{StageEnd}
use Rattle.pl_keeper.specs.declared.records.Taking.{Taking}
use Rattle.pl_plan.specs.declared.plan.Compiled.{Compiled}
use Rattle.pl_torn.specs.declared.seen.Seen.{Seen}

abbrev pub at : ℕ → Event → Fact
at moment event = record { moment = moment; event = event }

-- ---- settings

abbrev pub setting_in : Record → Option Event
setting_in (kept.File told) = Some (event.FilePut (record { key = told.key; text = told.text }))
setting_in (kept.Pipeline told) = Some (event.PipelineSet (record {
  name = told.name;
  repo = told.repo;
  path = told.path;
}))
setting_in (kept.Resource told) = Some (event.ResourceSet (record {
  key = told.key;
  pipelines = told.pipelines;
  exclusive = told.exclusive;
  checks = told.checks;
}))
setting_in (kept.Principal told) = Some (event.PrincipalSet (record {
  name = told.name;
  roles = told.roles;
  digest = told.digest;
}))
setting_in (kept.Agent told) = Some (event.AgentSet (record {
  name = told.name;
  pool = told.pool;
  capabilities = told.capabilities;
}))
setting_in _ = None

abbrev pub setting_facts : Record → List Fact
setting_facts kept = option_to_list (option_map (at 0) (setting_in kept))

abbrev pub setting_of : Seen → List Fact
setting_of one = option_map_or setting_facts one.kept []

-- ---- what has a moment

-- a run's row tells that it was queued, and then that it was canceled
abbrev pub queueing : KeptRun → Compiled → Fact
queueing told compiled = at told.moment (event.RunQueued (record {
  run = told.run;
  pipeline = told.pipeline;
  requester = told.requester;
  compiled = compiled;
}))

abbrev pub run_facts : Option Compiled → KeptRun → List Fact
run_facts compiled told = option_to_list (option_map (queueing told) compiled) ++
    option_to_list (option_map (λ moment. at moment (event.RunCanceled told.run)) told.canceled)

-- a stage's its start, and then its end
abbrev pub stage_end : KeptStage → StageEnd → Fact
stage_end told ended = at ended.moment
    (event.StageEnded told.run told.position ended.outcome ended.rule)

abbrev pub stage_facts : KeptStage → List Fact
stage_facts told = option_to_list (option_map
    (λ moment. at moment (event.StageStarted told.run told.position)) told.started) ++
    option_to_list (option_map (stage_end told) told.ended)

-- a job's its taking, and then its end
abbrev pub taking : ℕ → ℕ → ℕ → Taking → Fact
taking run stage job taken = at taken.moment (event.JobTaken run stage job taken.agent)

abbrev pub job_end : ℕ → ℕ → ℕ → JobEnd → Fact
job_end run stage job ended = at ended.moment
    (event.JobEnded ended.outcome ended.reported stage job run ended.rule ended.outputs)

abbrev pub job_facts : KeptJob → List Fact
job_facts told =
    option_to_list (option_map (taking told.run told.stage told.position) told.taken) ++
    option_to_list (option_map (job_end told.run told.stage told.position) told.ended)

-- and a decision's that it was made
abbrev pub decision : KeptDecision → Fact
decision told =
    at told.moment (event.DecisionMade told.run told.stage told.approver told.approve)

abbrev pub dated_in : Option Compiled → Record → List Fact
dated_in compiled (kept.Run told) = run_facts compiled told
dated_in compiled (kept.Stage told) = stage_facts told
dated_in compiled (kept.Job told) = job_facts told
dated_in compiled (kept.Decision told) = decision told ∷ []
dated_in compiled _ = []

abbrev pub dated_of : Seen → List Fact
dated_of one = option_map_or (dated_in one.compiled) one.kept []
