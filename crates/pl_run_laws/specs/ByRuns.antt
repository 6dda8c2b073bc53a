-- What is due first in a run, of several kinds, and the least of that over all runs.
use Rattle.std.specs.Prelude.{◌≡◌, ◌⊎◌, ◌<◌, ℕ, suc, List, [], ◌∷◌, Option, Some, None}
use Rattle.pl_facts.specs.declared.fact.Event.{Event}
use Rattle.pl_facts.specs.declared.fact.Fact.{Fact}
use Rattle.pl_due.specs.Due.{Among, Next, Superseded}
use Rattle.pl_due.specs.Kinds.{Fails, IsDone, IsPassedOver, JobIsPassedOver, TimesOut}
use Rattle.pl_due.specs.Least.{FirstOf, InStage, OfStages}

-- the kinds that are of one stage or job by itself
abbrev pub kinds : List Fact → ℕ → List InStage
kinds facts moment = TimesOut facts moment ∷ JobIsPassedOver facts ∷ IsDone facts
    ∷ IsPassedOver facts ∷ Fails facts moment ∷ []

-- and the findings of those that are of all stages
abbrev pub by_locks : List Fact → ℕ → List (Option Event → Type 0)
by_locks facts moment = Among facts moment Superseded ∷ Among facts moment Next ∷ []

-- ---- in one run

-- by stage, then by job
abbrev pub ComesBefore : ℕ → ℕ → ℕ → ℕ → Type 0
ComesBefore s j stage job = (s < stage) ⊎ ((s ≡ stage) × (j < job))

-- the fact of the least stage or job of the run that is of the kind
pub record IsLeastIn (facts : List Fact) (kind : InStage) (run : ℕ) (event : Event) : Type 0 where
  pub stage : ℕ
  pub job : ℕ
  pub is : OfStages facts kind run stage job event
  pub least : (s j : ℕ) (other : Event) → OfStages facts kind run s j other →
      ¬ ComesBefore s j stage job

abbrev pub LeastIn : List Fact → InStage → ℕ → Option Event → Type 0
LeastIn facts kind run None =
    (stage job : ℕ) (event : Event) → ¬ OfStages facts kind run stage job event
LeastIn facts kind run (Some event) = IsLeastIn facts kind run event

-- a fact, and the number of the kind that it is of
abbrev pub Found : Type 0
Found = Option (ℕ × Event)

-- of the first kind that has a stage or a job in the run, and of it the least; the kinds are
-- counted from this number on
abbrev pub FirstIn : List Fact → ℕ → List InStage → ℕ → Found → Type 0
FirstIn facts number [] run found = found ≡ None
FirstIn facts number (kind ∷ more) run found =
    ((event : Event) × (found ≡ Some (number, event)) × LeastIn facts kind run (Some event))
    ⊎ (LeastIn facts kind run None × FirstIn facts (suc number) more run found)

-- ---- over all runs

-- what was found in a run
pub record Firsts : Type 0 where
  pub run : ℕ
  pub kind : ℕ
  pub event : Event

-- by kind, then by run
abbrev pub IsEarlier : ℕ → ℕ → ℕ → ℕ → Type 0
IsEarlier k r kind run = (k < kind) ⊎ ((k ≡ kind) × (r < run))

-- the least of what was found in each run, or None where nothing was in any
abbrev pub LeastOfAll : (ℕ → Found) → Option Firsts → Type 0
LeastOfAll found None = (run : ℕ) → found run ≡ None
LeastOfAll found (Some one) = (found one.run ≡ Some (one.kind, one.event))
    × ((r k : ℕ) (event : Event) → found r ≡ Some (k, event) → ¬ IsEarlier k r one.kind one.run)

-- what is due by that: it, and where there is none what the findings behind tell
abbrev pub DueBy : List (Option Event → Type 0) → Option Firsts → Option Event → Type 0
DueBy findings None due = FirstOf findings due
DueBy findings (Some one) due = due ≡ Some one.event
