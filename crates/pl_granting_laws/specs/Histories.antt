-- What stays so along a history: stages are started of queued runs alone, and the jobs of a stage
-- that was started have ended where the stage has (Microsoft Learn, Azure Pipelines, "Stages",
-- "Jobs").
use Rattle.std.specs.Prelude.{◌≡◌, ◌⊎◌, ℕ, true, List, None}
use Rattle.pl_facts.specs.declared.fact.Event.{Event}
use Rattle.pl_facts.specs.declared.fact.Event.TheVariants as event
use Rattle.pl_facts.specs.declared.fact.Fact.{Fact}
use Rattle.pl_facts.specs.declared.fact.QueuedRun.{QueuedRun}
use Rattle.pl_journal.specs.Runs.{queueing, stage_end, stage_start}
use Rattle.pl_plan.specs.declared.plan.PlanStage.{PlanStage}
use Rattle.pl_granting.specs.Below.pl_due.specs.Nodes.{IsStageOf, has_done_all}
use Rattle.pl_granting.specs.Grantable.{AreDone}

pub record AreOrderly (facts : List Fact) : Type 0 where
  -- a stage that was started is of a run that was queued
  pub of_runs : (run stage : ℕ) → ¬ (stage_start run stage facts ≡ None) →
      ¬ (queueing run facts ≡ None)
  -- in each stage that was started and has ended, every job has ended
  pub done : AreDone facts

-- every job of the stage has ended
abbrev pub HasDoneAll : List Fact → ℕ → ℕ → Type 0
HasDoneAll facts run stage = (told : QueuedRun) × (one : PlanStage)
    × IsStageOf facts run stage told one × (has_done_all one run stage facts ≡ true)

-- what may come behind these facts: a run under a number that none has, the start of a queued run's
-- stage that hasn't ended, the end of a stage that wasn't started or whose jobs have all ended, and
-- any other fact
abbrev pub MayCome : List Fact → Event → Type 0
MayCome facts (event.RunQueued told) = queueing told.run facts ≡ None
MayCome facts (event.StageStarted run stage) =
    (¬ (queueing run facts ≡ None)) × (stage_end run stage facts ≡ None)
MayCome facts (event.StageEnded run stage outcome rule) =
    (stage_start run stage facts ≡ None) ⊎ HasDoneAll facts run stage
MayCome facts _ = Unit {0}
