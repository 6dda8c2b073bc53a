-- Stages in time.
use Rattle.std.specs.Prelude.{◌≡◌, ◌≤◌, ℕ, List, Some}
use Rattle.std.specs.List.{AllByRecursion}
use Rattle.pl_facts.specs.declared.fact.Fact.{Fact}
use Rattle.pl_plan.specs.declared.plan.PlanStage.{PlanStage}
use Rattle.pl_journal.specs.Runs.{stage_end, stage_start}
use Rattle.pl_kept.specs.Kept.{planned_stage}

-- a stage had ended at a moment
pub record HadEnded (facts : List Fact) (moment run stage : ℕ) : Type 0 where
  pub end : Fact
  pub is : stage_end run stage facts ≡ Some end
  pub before : end.moment ≤ moment

pub record AreInTime (facts : List Fact) : Type 0 where
  -- a stage ends no earlier than it was started
  pub ends : (run stage : ℕ) (start end : Fact) → stage_start run stage facts ≡ Some start →
      stage_end run stage facts ≡ Some end → start.moment ≤ end.moment
  -- what it waits for had ended when it was started
  pub waits : (run stage : ℕ) (planned : PlanStage) (start : Fact) →
      planned_stage run stage facts ≡ Some planned → stage_start run stage facts ≡ Some start →
      AllByRecursion (HadEnded facts start.moment run) planned.depends
