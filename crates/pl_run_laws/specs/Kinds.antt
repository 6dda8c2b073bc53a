-- What is due in a run's stages, and which of them may start, by what has happened to it and by the
-- resources that they use.
use Rattle.std.specs.Prelude.{◌≡◌, ◌↔◌, ℕ, List}
use Rattle.pl_facts.specs.declared.fact.Event.{Event}
use Rattle.pl_facts.specs.declared.fact.Fact.{Fact}
use Rattle.pl_facts.specs.declared.fact.QueuedRun.{QueuedRun}
use Rattle.pl_facts.specs.Below.pl_plan.specs.declared.plan.PlanStage.{PlanStage}
use Rattle.pl_due.specs.Contention.{Holds, InRun, IsEligible, contender_of}
use Rattle.pl_due.specs.Kinds.{Fails, IsDone, IsPassedOver, JobIsPassedOver, TimesOut}
use Rattle.pl_due.specs.Least.{InStage}
use Rattle.pl_due.specs.Nodes.{IsStageOf}
use Rattle.pl_run_laws.specs.Uses.{AreSameUses}

-- the same is due of a kind in each stage of the run
abbrev pub SameDue : ℕ → InStage → InStage → Type 0
SameDue run old new = (told : QueuedRun) (one : PlanStage) (stage job : ℕ) (event : Event) →
    (old told one run stage job event ↔ new told one run stage job event)

-- the same holds of each stage of the run
abbrev pub SameHolds : ℕ → InRun → InRun → Type 0
SameHolds run old new = (told : QueuedRun) (one : PlanStage) (stage : ℕ) →
    (old told one run stage ↔ new told one run stage)

-- the same is due of a kind in a stage whose resources are set alike
abbrev pub SameDueBy : ℕ → List Fact → List Fact → InStage → InStage → Type 0
SameDueBy run before behind old new = (told : QueuedRun) (one : PlanStage) (stage job : ℕ)
    (event : Event) → AreSameUses one.uses before behind →
    (old told one run stage job event ↔ new told one run stage job event)

abbrev pub SameHoldsBy : ℕ → List Fact → List Fact → InRun → InRun → Type 0
SameHoldsBy run before behind old new = (told : QueuedRun) (one : PlanStage) (stage : ℕ) →
    AreSameUses one.uses before behind → (old told one run stage ↔ new told one run stage)

-- what is due by what has happened to the run alone: its stages are the same, jobs are out of time
-- or passed over, stages are done or passed over, and stages run
pub record IsSameBut (run : ℕ) (old new : List Fact) : Type 0 where
  pub stages : (stage : ℕ) (told : QueuedRun) (one : PlanStage) →
      (IsStageOf old run stage told one ↔ IsStageOf new run stage told one)
  pub timeouts : (moment : ℕ) → SameDue run (TimesOut old moment) (TimesOut new moment)
  pub jobs : SameDue run (JobIsPassedOver old) (JobIsPassedOver new)
  pub done : SameDue run (IsDone old) (IsDone new)
  pub conditions : SameDue run (IsPassedOver old) (IsPassedOver new)
  pub runs : SameHolds run (Holds old) (Holds new)

-- what is due by the resources too: checks fail, stages may start, and what they contend for
pub record IsSameChecked (run : ℕ) (old new : List Fact) : Type 0 where
  pub fails : (moment : ℕ) → SameDueBy run old new (Fails old moment) (Fails new moment)
  pub eligible : (moment : ℕ) →
      SameHoldsBy run old new (IsEligible old moment) (IsEligible new moment)
  pub contender : (told : QueuedRun) (one : PlanStage) (stage : ℕ) →
      AreSameUses one.uses old new →
      contender_of new told one run stage ≡ contender_of old told one run stage
