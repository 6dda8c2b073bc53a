-- Jobs in time.
use Rattle.std.specs.Prelude.{◌≡◌, ◌≤◌, ◌||◌, ℕ, true, List, None, Some, is_some}
use Rattle.std.specs.List.{AllByRecursion}
use Rattle.pl_facts.specs.declared.fact.Event.{Event}
use Rattle.pl_facts.specs.declared.fact.Event.TheVariants as event
use Rattle.pl_facts.specs.declared.fact.Fact.{Fact}
use Rattle.pl_plan.specs.declared.plan.PlanJob.{PlanJob}
use Rattle.pl_journal.specs.Runs.{job_end, stage_start, taking}
use Rattle.pl_kept.specs.Kept.{planned_job}

-- a job had ended at a moment
pub record JobHadEnded (facts : List Fact) (moment run stage job : ℕ) : Type 0 where
  pub end : Fact
  pub is : job_end run stage job facts ≡ Some end
  pub before : end.moment ≤ moment

pub record AreJobsInTime (facts : List Fact) : Type 0 where
  -- a job that was taken or has ended is of a stage that was started
  pub taken : (run stage job : ℕ) → ¬ (taking run stage job facts ≡ None) →
      ¬ (stage_start run stage facts ≡ None)
  pub ended : (run stage job : ℕ) → ¬ (job_end run stage job facts ≡ None) →
      ¬ (stage_start run stage facts ≡ None)
  -- it ends no earlier than it was taken
  pub ends : (run stage job : ℕ) (take end : Fact) → taking run stage job facts ≡ Some take →
      job_end run stage job facts ≡ Some end → take.moment ≤ end.moment
  -- what it waits for had ended when it was taken
  pub waits : (run stage job : ℕ) (planned : PlanJob) (take : Fact) →
      planned_job run stage job facts ≡ Some planned → taking run stage job facts ≡ Some take →
      AllByRecursion (JobHadEnded facts take.moment run stage) planned.depends

-- a job's end was reported, or a rule ended it
abbrev pub IsSaid : Event → Type 0
IsSaid (event.JobEnded outcome reported stage job run rule outputs) =
    (is_some reported || is_some rule) ≡ true
IsSaid _ = Unit {0}

abbrev pub AreSaid : List Fact → Type 0
AreSaid facts = AllByRecursion (λ fact. IsSaid fact.event) facts
