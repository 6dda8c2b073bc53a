-- One kind after the other.
use Rattle.std.proofs.Common.{◌≡◌, ℕ, Bool, true, false, List, [], ◌∷◌, Option, Some, None, refl}
use Rattle.std.proofs.Common.{inl, inr}
use Rattle.std.specs.List.{All}
use Rattle.pl_facts.specs.declared.fact.Event.{Event}
use Rattle.pl_facts.specs.declared.fact.Fact.{Fact}
use Rattle.pl_facts.specs.declared.fact.QueuedRun.{QueuedRun}
use Rattle.pl_locks.specs.Locks.{IsSuperseded}
use Rattle.pl_locks.specs.declared.contender.Contender.{Contender}
use Rattle.pl_plan.specs.declared.plan.PlanStage.{PlanStage}
use Rattle.pl_due.specs.declared.open_stages.Place.{Place}
use Rattle.pl_results.specs.declared.members.PlanNode.TheVariants.{Stage}
use Rattle.pl_due.specs.Contention.{Holds, InRun, locks}
use Rattle.pl_due.specs.Due.{Next, Superseded}
use Rattle.pl_due.specs.Kinds.{Fails, IsDone, IsPassedOver, JobIsPassedOver, TimesOut}
use Rattle.pl_due.specs.Kinds.{false_stage_end}
use Rattle.pl_due.specs.Least.{FirstOf, InStage, Least, OfStages}
use Rattle.pl_due.specs.Nodes.{IsStageOf, condition, is_canceled, is_waiting}
use Rattle.pl_due.specs.Scans.{FirstJob, FirstStage, HasStages, Waits}
use Rattle.pl_due.proofs.Scanned.{least_of_all}

-- what is of a kind is of such a stage
abbrev pub Stays : InRun → InStage → Type 0
Stays P kind = (told : QueuedRun) (one : PlanStage) (run stage job : ℕ) (event : Event) →
    kind told one run stage job event → P told one run stage

module _ (facts : List Fact) (kind : InStage) (P : InRun) (places : List Place)
    (has : HasStages facts P places) (stays : Stays P kind)
    (rest : List (Option Event → Type 0)) where
  pub found_here : (event : Event) → FirstStage facts kind places (Some event) →
      FirstOf (Least facts kind ∷ rest) (Some event)
  found_here event first =
      inl (event, refl, least_of_all facts kind P places (Some event) has stays first)

  pub none_of_all : FirstStage facts kind places None → Least facts kind None
  none_of_all none = least_of_all facts kind P places None has stays none

  pub found_later : (found : Option Event) → FirstStage facts kind places None →
      FirstOf rest found → FirstOf (Least facts kind ∷ rest) found
  found_later found none later = inr (none_of_all none, later)

-- ---- all five

module _ (facts : List Fact) (moment : ℕ) where
  pub timed_stays : Stays (Holds facts) (TimesOut facts moment)
  timed_stays told one run stage job event is = is.runs

  pub false_job_stays : Stays (Holds facts) (JobIsPassedOver facts)
  false_job_stays told one run stage job event is = is.runs

  pub done_stays : Stays (Holds facts) (IsDone facts)
  done_stays told one run stage job event is = is.runs

  pub false_stays : Stays (Waits facts) (IsPassedOver facts)
  false_stays told one run stage job event is = is.waits

  pub failing_stays : Stays (Waits facts) (Fails facts moment)
  failing_stays told one run stage job event is = is.waits

-- where no condition is false, that of a stage that waits is true
pub says_true : (facts : List Fact) (told : QueuedRun) (one : PlanStage) (run stage : ℕ) →
    FirstJob (OfStages facts (IsPassedOver facts) run stage) None →
    IsStageOf facts run stage told one → is_waiting one run stage facts ≡ true →
    condition told run (Stage stage) facts ≡ true
says_true facts told one run stage none there waits =
    go (condition told run (Stage stage) facts) refl
  where
    go : (b : Bool) → condition told run (Stage stage) facts ≡ b → b ≡ true
    go true says = refl
    go false says = absurd (none 0 (false_stage_end (is_canceled run facts) run stage)
        (told, one, there, record { itself = refl; waits = waits; says = says; gets = refl }))

-- ---- among contenders

pub none_gives_way : (eligible holders : List Contender) (found : Option Event) →
    All (λ stage. ¬ IsSuperseded eligible stage) eligible → Next (locks eligible holders) found →
    FirstOf (Superseded (locks eligible holders) ∷ Next (locks eligible holders) ∷ []) found
none_gives_way eligible holders None none next = inr (none, inr (next, refl))
none_gives_way eligible holders (Some event) none next = inr (none, inl (event, refl, next))
