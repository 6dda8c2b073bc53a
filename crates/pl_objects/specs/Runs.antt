-- How a run stands, as JSON.
use Rattle.std.specs.Prelude.{List, [], ◌∷◌, map, Some, None, codes}
use Rattle.pl_facts.specs.declared.fact.QueuedRun.{QueuedRun}
use Rattle.pl_json.specs.declared.json.Json.{Json}
use Rattle.pl_json.specs.declared.json.Json.TheVariants as json
use Rattle.pl_json.specs.declared.members.Member.{Member}
use Rattle.pl_json.specs.Members.{member}
use Rattle.pl_json.specs.Objects.{object}
use Rattle.pl_objects.specs.declared.status.JobStatus.{JobStatus}
use Rattle.pl_objects.specs.declared.status.Progress.{Progress}
use Rattle.pl_objects.specs.declared.status.Progress.TheVariants.{Waiting, Running, Ended}
use Rattle.pl_objects.specs.declared.status.RunStatus.{RunStatus}
use Rattle.pl_objects.specs.declared.status.StageStatus.{StageStatus}
use Rattle.pl_plan.specs.declared.plan.PlanJob.{PlanJob}
use Rattle.pl_plan.specs.declared.plan.PlanStage.{PlanStage}
use Rattle.pl_plan.specs.Labels.{label}
use Rattle.pl_refusals.specs.Names.{outcome_name, state_name}
use Rattle.pl_refusals.specs.Rows.{number, rule_object, text, text_or_null}
use Rattle.pl_rules.specs.declared.state.State.{State}
use Rattle.pl_rules.specs.declared.state.State.TheVariants as state

-- ---- how far something has come

abbrev pub state_of : Progress → State
state_of Waiting = state.Waiting
state_of Running = state.Running
state_of (Ended outcome by) = state.Ended

-- the result, once it has ended
abbrev pub result_in : Progress → Json
result_in (Ended outcome by) = json.Text (outcome_name outcome)
result_in _ = json.Null

-- the rule that ended it, if one did
abbrev pub rule_in : Progress → Json
rule_in (Ended outcome (Some by)) = rule_object by
rule_in _ = json.Null

abbrev pub progress_members : Progress → List (Member Json)
progress_members progress =
    member (codes "result") (result_in progress) ∷ member (codes "rule") (rule_in progress)
    ∷ text (codes "state") (state_name (state_of progress)) ∷ []

-- ---- jobs, stages and runs

-- each item beside what is told at its place, or beside a default where nothing is told any more
abbrev pub beside : {X Y : Type 0} → Y → List X → List Y → List (X × Y)
beside default [] told = []
beside default (x ∷ items) [] = (x, default) ∷ beside default items []
beside default (x ∷ items) (y ∷ told) = (x, y) ∷ beside default items told

-- a job and a stage of which nothing is told weren't started
abbrev pub unstarted_job : JobStatus
unstarted_job = record { agent = None; progress = Waiting }

abbrev pub unstarted_stage : StageStatus
unstarted_stage = record { progress = Waiting; jobs = [] }

-- a job by its label, and the agent that took it, if one did
abbrev pub job_status : PlanJob × JobStatus → Json
job_status told =
    object (member (codes "agent") (text_or_null told.1.agent)
    ∷ text (codes "job") (label told.0)
    ∷ progress_members told.1.progress)

abbrev pub stage_status : PlanStage × StageStatus → Json
stage_status told =
    object (member (codes "jobs") (json.Array (map job_status (beside unstarted_job told.0.jobs
    told.1.jobs)))
    ∷ text (codes "name") told.0.name
    ∷ progress_members told.1.progress)

-- a run's ref is the one under which its root file was read
abbrev pub run_object : QueuedRun → RunStatus → Json
run_object run status =
    object (member (codes "canceled") (json.Bool status.canceled)
    ∷ text (codes "pipeline") run.pipeline
    ∷ text (codes "ref") run.compiled.sources.root.git_ref
    ∷ text (codes "requester") run.requester
    ∷ number (codes "run") run.run
    ∷ member (codes "stages") (json.Array (map stage_status (beside unstarted_stage
    run.compiled.plan.stages status.stages))) ∷ [])
