-- Facts that stand on what was queued and planned.
use Rattle.std.specs.Prelude.{◌≡◌, ◌&&◌, ℕ, true, List, None, Some}
use Rattle.std.specs.List.{AllByRecursion}
use Rattle.pl_facts.specs.declared.fact.Fact.{Fact}
use Rattle.pl_journal.specs.About.{is_about}
use Rattle.pl_journal.specs.Kinds.{is_taking}
use Rattle.pl_journal.specs.Runs.{canceling, job_end, queueing, stage_end, stage_start, taking}
use Rattle.pl_kept.specs.Kept.{planned_job, planned_stage}
use Rattle.pl_log.specs.Keys.{Job}

-- a fact that takes a job is the taking of that job: no job is taken twice
abbrev pub TakesOnce : List Fact → Fact → Type 0
TakesOnce facts fact = (run stage job : ℕ) →
    (is_about (Job run stage job) fact && is_taking fact.event) ≡ true →
    taking run stage job facts ≡ Some fact

pub record AreRooted (facts : List Fact) : Type 0 where
  -- a run that was canceled was queued
  pub canceled : (run : ℕ) → ¬ (canceling run facts ≡ None) → ¬ (queueing run facts ≡ None)
  -- a stage that was started or has ended is planned, and so is a job that has ended by itself
  pub started : (run stage : ℕ) → ¬ (stage_start run stage facts ≡ None) →
      ¬ (planned_stage run stage facts ≡ None)
  pub ended : (run stage : ℕ) → ¬ (stage_end run stage facts ≡ None) →
      ¬ (planned_stage run stage facts ≡ None)
  pub job_ended : (run stage job : ℕ) → ¬ (job_end run stage job facts ≡ None) →
      ¬ (planned_job run stage job facts ≡ None)
  -- no job is taken twice
  pub once : AllByRecursion (TakesOnce facts) facts
