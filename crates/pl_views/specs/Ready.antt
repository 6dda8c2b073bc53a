-- When a stage is ready, and since when; and whether a job's turn has come (Microsoft Learn, Azure
-- Pipelines, "Stages" and "Jobs", Specify dependencies).
use Rattle.std.specs.Prelude.{ℕ, ◌≤◌, max, Bool, not, ◌&&◌, ◌||◌, List, ◌∷◌, AllPairs, map, find}
use Rattle.std.specs.Prelude.{fold}
use Rattle.std.specs.Prelude.{Option, None, Some, is_some}
use Rattle.std.specs.List.{list_all, list_any}
use Rattle.pl_journal.specs.Below.pl_facts.specs.declared.fact.Fact.{Fact}
use Rattle.pl_journal.specs.About.{is_about}
use Rattle.pl_journal.specs.Kinds.{is_queueing, is_stage_end}
use Rattle.pl_journal.specs.Runs.{job_ending, queueing, stage_end}
use Rattle.pl_log.specs.Keys.{Run, Stage}
use Rattle.pl_plan.specs.declared.plan.PlanJob.{PlanJob}
use Rattle.pl_plan.specs.declared.plan.PlanStage.{PlanStage}

-- whether the stage at a place has ended
abbrev pub has_ended : ℕ → List Fact → ℕ → Bool
has_ended run facts stage = is_some (stage_end run stage facts)

-- whether the job at a place of a stage has ended: by its own end, or its stage's without a start
abbrev pub job_has_ended : ℕ → ℕ → List Fact → ℕ → Bool
job_has_ended run stage facts job = is_some (job_ending run stage job facts)

-- a stage is ready once all for which it waits have ended
abbrev pub is_ready : PlanStage → ℕ → List Fact → Bool
is_ready planned run facts = list_all (has_ended run facts) planned.depends

-- the place of the first for which it waits that hasn't ended
abbrev pub awaited_stage : PlanStage → ℕ → List Fact → Option ℕ
awaited_stage planned run facts = find (λ stage. not (has_ended run facts stage)) planned.depends

-- the same of a job in the stage at a place
abbrev pub job_is_ready : PlanJob → ℕ → ℕ → List Fact → Bool
job_is_ready planned run stage facts = list_all (job_has_ended run stage facts) planned.depends

abbrev pub awaited_job : PlanJob → ℕ → ℕ → List Fact → Option ℕ
awaited_job planned run stage facts =
    find (λ job. not (job_has_ended run stage facts job)) planned.depends

-- the later of a moment and that of a fact, if there is one
abbrev pub later : ℕ → Option Fact → ℕ
later moment None = moment
later moment (Some fact) = max moment fact.moment

-- the latest moment of the facts that are there
abbrev pub latest_moment : List (Option Fact) → ℕ
latest_moment facts = fold later 0 facts

-- the facts that make a stage ready: its run's queueing, and the ends of those for which it waits
abbrev pub ready_by : PlanStage → ℕ → List Fact → List (Option Fact)
ready_by planned run facts =
    queueing run facts ∷ map (λ stage. stage_end run stage facts) planned.depends

-- since when a stage that is ready is so
abbrev pub ready_moment : PlanStage → ℕ → List Fact → ℕ
ready_moment planned run facts = latest_moment (ready_by planned run facts)

-- ---- laws

-- moments never fall from fact to fact
abbrev pub NeverFall : List Fact → Type 0
NeverFall facts = AllPairs (λ one behind. one.moment ≤ behind.moment) facts

-- whether a fact is the run's queueing or the end of a stage for which a stage waits
abbrev pub makes_ready : PlanStage → ℕ → Fact → Bool
makes_ready planned run fact = (is_about (Run run) fact && is_queueing fact.event)
    || list_any (λ stage. is_about (Stage run stage) fact && is_stage_end fact.event)
    planned.depends
