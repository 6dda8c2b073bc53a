-- The least of a kind of stages or jobs, by run, then by stage, then by job.
use Rattle.std.specs.Prelude.{◌≡◌, ◌⊎◌, ℕ, ◌<◌, List, [], ◌∷◌, Option, Some, None}
use Rattle.pl_facts.specs.declared.fact.Event.{Event}
use Rattle.pl_facts.specs.declared.fact.Fact.{Fact}
use Rattle.pl_facts.specs.declared.fact.QueuedRun.{QueuedRun}
use Rattle.pl_plan.specs.declared.plan.PlanStage.{PlanStage}
use Rattle.pl_due.specs.Nodes.{IsStageOf}

-- What is due in a stage: the jobs that are of the kind, by their places, each with the fact that
-- it gets. Where the stage itself is meant, the place is 0.
abbrev pub InStage : Type 1
InStage = QueuedRun → PlanStage → ℕ → ℕ → ℕ → Event → Type 0

-- such a job of a stage of a queued run
abbrev pub OfStages : List Fact → InStage → ℕ → ℕ → ℕ → Event → Type 0
OfStages facts kind run stage job event = (told : QueuedRun) × (one : PlanStage)
    × IsStageOf facts run stage told one × kind told one run stage job event

-- by run, then by stage, then by job
abbrev pub Precedes : ℕ → ℕ → ℕ → ℕ → ℕ → ℕ → Type 0
Precedes run stage job r s j =
    (run < r) ⊎ ((run ≡ r) × ((stage < s) ⊎ ((stage ≡ s) × (job < j))))

-- the fact of the least one that is of the kind
pub record IsLeastOf (facts : List Fact) (kind : InStage) (event : Event) : Type 0 where
  pub run : ℕ
  pub stage : ℕ
  pub job : ℕ
  pub is : OfStages facts kind run stage job event
  pub least : (r s j : ℕ) (other : Event) → OfStages facts kind r s j other →
      ¬ Precedes r s j run stage job

-- that fact, or None where none is of the kind
abbrev pub Least : List Fact → InStage → Option Event → Type 0
Least facts kind None =
    (run stage job : ℕ) (event : Event) → ¬ OfStages facts kind run stage job event
Least facts kind (Some event) = IsLeastOf facts kind event

-- what the first finding gives that gives anything
abbrev pub FirstOf : List (Option Event → Type 0) → Option Event → Type 0
FirstOf [] found = found ≡ None
FirstOf (finding ∷ findings) found =
    ((event : Event) × (found ≡ Some event) × finding (Some event))
    ⊎ (finding None × FirstOf findings found)
