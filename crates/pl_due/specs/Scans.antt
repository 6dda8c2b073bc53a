-- What is found where the stages that haven't ended are gone through in order.
use Rattle.std.specs.Prelude.{◌≡◌, ◌⊎◌, ℕ, ◌<◌, Bool, true, false, List, [], ◌∷◌, AllPairs}
use Rattle.std.specs.Prelude.{Contains, Option, Some, None}
use Rattle.pl_facts.specs.declared.fact.Event.{Event}
use Rattle.pl_facts.specs.declared.fact.Fact.{Fact}
use Rattle.pl_facts.specs.declared.fact.QueuedRun.{QueuedRun}
use Rattle.pl_locks.specs.Locks.{IsAt}
use Rattle.pl_locks.specs.declared.contender.Contender.{Contender}
use Rattle.pl_plan.specs.declared.plan.PlanStage.{PlanStage}
use Rattle.pl_due.specs.declared.open_stages.Place.{Place}
use Rattle.pl_due.specs.Contention.{Holds, InRun, IsEligible, IsOne}
use Rattle.pl_due.specs.Least.{InStage, OfStages}
use Rattle.pl_due.specs.Kinds.{Fails}
use Rattle.pl_due.specs.Nodes.{IsStageOf, is_waiting}
use Rattle.pl_due.specs.Open.{at_place}

-- ---- stages by run and place

abbrev pub IsBefore : Place → Place → Type 0
IsBefore a b = (a.run < b.run) ⊎ ((a.run ≡ b.run) × (a.stage < b.stage))

-- ascending, and among them each stage of a queued run of which it holds
pub record HasStages (facts : List Fact) (P : InRun) (places : List Place) : Type 0 where
  pub ordered : AllPairs IsBefore places
  pub all : (told : QueuedRun) (one : PlanStage) (run stage : ℕ) →
      IsStageOf facts run stage told one → P told one run stage →
      Contains places (at_place run stage)

-- a stage that waits for no other stage
abbrev pub Waits : List Fact → QueuedRun → PlanStage → ℕ → ℕ → Type 0
Waits facts told one run stage = is_waiting one run stage facts ≡ true

abbrev pub HasRunning : List Fact → List Place → Type 0
HasRunning facts places = HasStages facts (Holds facts) places

abbrev pub HasWaiting : List Fact → List Place → Type 0
HasWaiting facts places = HasStages facts (Waits facts) places

-- ---- the first place at which a test passes

abbrev pub IsFirstTrue : (ℕ → Bool) → Option ℕ → Type 0
IsFirstTrue test None = (at : ℕ) → test at ≡ false
IsFirstTrue test (Some found) =
    (test found ≡ true) × ((at : ℕ) → at < found → test at ≡ false)

-- ---- the fact of the first job of a stage that is of a kind, and of the first of some stages

abbrev pub FirstJob : (ℕ → Event → Type 0) → Option Event → Type 0
FirstJob kind None = (job : ℕ) (event : Event) → ¬ kind job event
FirstJob kind (Some event) = (job : ℕ) × kind job event
    × ((j : ℕ) (other : Event) → kind j other → ¬ (j < job))

abbrev pub FirstStage : List Fact → InStage → List Place → Option Event → Type 0
FirstStage facts kind [] found = found ≡ None
FirstStage facts kind (at ∷ places) found =
    ((event : Event) × (found ≡ Some event)
    × FirstJob (OfStages facts kind at.run at.stage) (Some event))
    ⊎ (FirstJob (OfStages facts kind at.run at.stage) None × FirstStage facts kind places found)

-- ---- those of some stages of which something holds

-- the stage as a contender, or None where it doesn't hold of it
abbrev pub IsPicked : List Fact → InRun → ℕ → ℕ → Option Contender → Type 0
IsPicked facts P run stage None = (told : QueuedRun) (one : PlanStage) →
    IsStageOf facts run stage told one → ¬ P told one run stage
IsPicked facts P run stage (Some picked) = IsOne facts P picked × IsAt run stage picked

-- all of them, in their order
abbrev pub Picked : List Fact → InRun → List Place → List Contender → Type 0
Picked facts P [] picked = picked ≡ []
Picked facts P (at ∷ places) picked =
    ((stage : Contender) × (rest : List Contender) × (picked ≡ stage ∷ rest)
    × IsPicked facts P at.run at.stage (Some stage) × Picked facts P places rest)
    ⊎ (IsPicked facts P at.run at.stage None × Picked facts P places picked)

-- ---- what is told of one stage that waits: that a check fails, or the stage as a contender where
-- it is eligible, or neither

abbrev pub OneJudged : List Fact → ℕ → ℕ → ℕ → Option Event → Option Contender → Type 0
OneJudged facts moment run stage fails picked =
    FirstJob (OfStages facts (Fails facts moment) run stage) fails
    × ((fails ≡ None) → IsPicked facts (IsEligible facts moment) run stage picked)

-- and of some stages: the first of which a check fails, or all that are eligible
abbrev pub AllJudged : List Fact → ℕ → List Place → Option Event → List Contender → Type 0
AllJudged facts moment places fails picked =
    FirstStage facts (Fails facts moment) places fails
    × ((fails ≡ None) → Picked facts (IsEligible facts moment) places picked)
