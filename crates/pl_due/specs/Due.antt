-- What is due at a moment: the fact that settling adds next. The order of the kinds is this
-- project's own.
use Rattle.std.specs.Prelude.{◌≡◌, ℕ, List, [], ◌∷◌, All, Option, Some, None}
use Rattle.pl_base.specs.declared.outcome.Outcome.TheVariants.{Skipped}
use Rattle.pl_facts.specs.declared.fact.Event.{Event}
use Rattle.pl_facts.specs.declared.fact.Event.TheVariants.{StageEnded, StageStarted}
use Rattle.pl_facts.specs.declared.fact.Fact.{Fact}
use Rattle.pl_locks.specs.Locks.{IsLeastLaterRun, IsLeastSuperseded, IsNext, IsSuperseded, Locks}
use Rattle.pl_locks.specs.Locks.{MayStart}
use Rattle.pl_locks.specs.declared.contender.Contender.{Contender}
use Rattle.pl_rules.specs.declared.rule.Rule.TheVariants as rules
use Rattle.pl_due.specs.Contention.{IsContention}
use Rattle.pl_due.specs.Kinds.{Fails, IsDone, IsPassedOver, JobIsPassedOver, TimesOut}
use Rattle.pl_due.specs.Least.{FirstOf, Least}

-- ---- the least superseded stage ends, by the least run to whose stage it gives way

pub record GivesUp (locks : Locks) (event : Event) : Type 0 where
  pub stage : Contender
  pub is : IsLeastSuperseded locks.eligible stage
  pub run : ℕ
  pub later : IsLeastLaterRun locks.eligible stage run
  pub gets : event ≡ StageEnded stage.run stage.position Skipped (Some (rules.LockSuperseded run))

abbrev pub Superseded : Locks → Option Event → Type 0
Superseded locks None = All (λ stage. ¬ IsSuperseded locks.eligible stage) locks.eligible
Superseded locks (Some event) = GivesUp locks event

-- ---- the next stage starts

pub record Starts (locks : Locks) (event : Event) : Type 0 where
  pub stage : Contender
  pub is : IsNext locks.eligible locks.holders stage
  pub gets : event ≡ StageStarted stage.run stage.position

abbrev pub Next : Locks → Option Event → Type 0
Next locks None = All (λ stage. ¬ MayStart locks.eligible locks.holders stage) locks.eligible
Next locks (Some event) = Starts locks event

-- ---- all seven kinds

-- among the stages that are eligible and those that hold
abbrev pub Among : List Fact → ℕ → (Locks → Option Event → Type 0) → Option Event → Type 0
Among facts moment finding found =
    (locks : Locks) × IsContention facts moment locks × finding locks found

abbrev pub findings : List Fact → ℕ → List (Option Event → Type 0)
findings facts moment =
    Least facts (TimesOut facts moment)
    ∷ Least facts (JobIsPassedOver facts)
    ∷ Least facts (IsDone facts)
    ∷ Least facts (IsPassedOver facts)
    ∷ Least facts (Fails facts moment)
    ∷ Among facts moment Superseded
    ∷ Among facts moment Next
    ∷ []

-- the first kind that has a stage or a job, and of it the least; None where nothing is due
abbrev pub IsDue : List Fact → ℕ → Option Event → Type 0
IsDue facts moment found = FirstOf (findings facts moment) found
