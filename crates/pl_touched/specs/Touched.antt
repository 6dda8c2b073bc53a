-- The places whose rows a fact can change.
use Rattle.std.specs.Prelude.{◌≡◌, ℕ, ◌+◌, Bool, false, ◌&&◌, ◌++◌, List, [], ◌∷◌, None}
use Rattle.std.specs.Prelude.{IfSome}
use Rattle.std.specs.List.{filter_map, flat_map, list_any, AllByRecursion}
use Rattle.std.specs.Ordering.{is_eq, nat_cmp}
use Rattle.pl_base.specs.Files.{file_cmp, text_cmp}
use Rattle.pl_base.specs.declared.row.Row.{Row}
use Rattle.pl_kept.specs.Below.pl_facts.specs.declared.fact.Event.{Event}
use Rattle.pl_kept.specs.Below.pl_facts.specs.declared.fact.Event.TheVariants as event
use Rattle.pl_kept.specs.Below.pl_facts.specs.declared.fact.Fact.{Fact}
use Rattle.pl_kept.specs.Below.pl_plan.specs.declared.plan.PlanJob.{PlanJob}
use Rattle.pl_kept.specs.Below.pl_plan.specs.declared.plan.PlanStage.{PlanStage}
use Rattle.pl_kept.specs.Below.pl_journal.specs.Runs.{queueing}
use Rattle.pl_kept.specs.Below.pl_keeper.specs.Rows.{IsKept}
use Rattle.pl_log.specs.Keys.{job_cmp, resource_cmp, stage_cmp}
use Rattle.pl_kept.specs.Kept.{kept_at, row_at, Where, File, Pipeline, Resource, Principal, Agent, Run}
use Rattle.pl_kept.specs.Kept.{Stage, Job, Decision}

-- a stage's jobs, from a place in its list on
abbrev pub job_places : ℕ → ℕ → ℕ → List PlanJob → List Where
job_places run stage at [] = []
job_places run stage at (job ∷ jobs) = Job run stage at ∷ job_places run stage (at + 1) jobs

-- a plan's stages, from a place in its list on, each with its jobs
abbrev pub stage_places : ℕ → ℕ → List PlanStage → List Where
stage_places run at [] = []
stage_places run at (stage ∷ stages) =
    Stage run at ∷ (job_places run at 0 stage.jobs ++ stage_places run (at + 1) stages)

-- a run that is queued brings the rows of its stages and jobs with it
abbrev pub touched : Event → List Where
touched (event.FilePut file) = File file.key ∷ []
touched (event.FileRemoved key) = File key ∷ []
touched (event.PipelineSet told) = Pipeline told.name ∷ []
touched (event.ResourceSet told) = Resource told.key ∷ []
touched (event.PrincipalSet told) = Principal told.name ∷ []
touched (event.AgentSet told) = Agent told.name ∷ []
touched (event.RunQueued told) =
    Run told.run ∷ stage_places told.run 0 told.compiled.plan.stages
touched (event.DecisionMade run stage approver approve) = Decision run stage approver ∷ []
touched (event.StageStarted run stage) = Stage run stage ∷ []
touched (event.StageEnded run stage outcome rule) = Stage run stage ∷ []
touched (event.JobTaken run stage job agent) = Job run stage job ∷ []
touched (event.JobEnded outcome reported stage job run rule outputs) = Job run stage job ∷ []
touched (event.RunCanceled run) = Run run ∷ []

-- whether two places are one
abbrev pub same_where : Where → Where → Bool
same_where (File a) (File b) = is_eq (file_cmp a b)
same_where (Pipeline a) (Pipeline b) = is_eq (text_cmp a b)
same_where (Resource a) (Resource b) = is_eq (resource_cmp a b)
same_where (Principal a) (Principal b) = is_eq (text_cmp a b)
same_where (Agent a) (Agent b) = is_eq (text_cmp a b)
same_where (Run a) (Run b) = is_eq (nat_cmp a b)
same_where (Stage run stage) (Stage r s) = is_eq (stage_cmp (run, stage) (r, s))
same_where (Job run stage job) (Job r s j) = is_eq (job_cmp (run, stage, job) (r, s, j))
same_where (Decision run stage approver) (Decision r s a) =
    is_eq (stage_cmp (run, stage) (r, s)) && is_eq (text_cmp approver a)
same_where _ _ = false

abbrev pub is_among : Where → List Where → Bool
is_among place places = list_any (λ other. same_where other place) places

-- a run is queued once
abbrev pub IsNewTo : List Fact → Event → Type 0
IsNewTo facts (event.RunQueued told) = queueing told.run facts ≡ None
IsNewTo facts _ = Unit {0}

-- each fact is new to the facts before it
abbrev pub AreNewTo : List Fact → List Fact → Type 0
AreNewTo facts [] = Unit {0}
AreNewTo facts (fact ∷ added) =
    IsNewTo facts fact.event × AreNewTo (facts ++ fact ∷ []) added

-- ---- rows

abbrev pub touched_by : List Fact → List Where
touched_by added = flat_map (λ fact. touched fact.event) added

-- the rows that stand at places, in the order of the places
abbrev pub rows_at : List Where → List Fact → List Row
rows_at places facts = filter_map (λ place. row_at place facts) places

-- what is kept at places can be read again
abbrev pub FitAt : List Where → List Fact → Type 0
FitAt places facts = AllByRecursion (λ place. IfSome (kept_at place facts) IsKept) places
