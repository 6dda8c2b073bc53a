-- Until when time alone changes nothing in a run.
use Rattle.std.specs.Prelude.{◌≡◌, ◌≤◌, ℕ, true, List, All, Option, Some, slice_get}
use Rattle.pl_facts.specs.declared.fact.Fact.{Fact}
use Rattle.pl_facts.specs.declared.fact.QueuedRun.{QueuedRun}
use Rattle.pl_facts.specs.Below.pl_plan.specs.declared.plan.PlanStage.{PlanStage}
use Rattle.pl_due.specs.Below.pl_views.specs.CheckViews.{check_view}
use Rattle.pl_due.specs.Checked.{all_checks}
use Rattle.pl_due.specs.Nodes.{IsStageOf, is_out_of_time, is_running, is_waiting}
use Rattle.pl_wakes.specs.Steady.{IsBefore, SaysSame}

-- it is so at each moment from one on until another
abbrev pub StaysUntil : (ℕ → Type 0) → ℕ → Option ℕ → Type 0
StaysUntil stays moment until =
    (later : ℕ) → moment ≤ later → IsBefore later until → stays later

-- a job that is out of time then is so now
abbrev pub JobIsQuiet : List Fact → ℕ → ℕ → PlanStage → ℕ → ℕ → ℕ → Type 0
JobIsQuiet facts moment later one run stage job =
    is_out_of_time later one run stage job facts ≡ true →
    is_out_of_time moment one run stage job facts ≡ true

-- each check of what a stage uses says the same then as now
abbrev pub ChecksAreQuiet : List Fact → ℕ → ℕ → QueuedRun → PlanStage → ℕ → ℕ → Type 0
ChecksAreQuiet facts moment later told one run stage =
    All (λ check. SaysSame check (check_view told one run stage facts) moment later)
    (all_checks facts one.uses)

-- no job of a stage that runs gets out of time, and the checks of one that waits say the same
pub record StageIsQuiet (facts : List Fact) (moment later : ℕ) (told : QueuedRun)
    (one : PlanStage) (run stage : ℕ) : Type 0 where
  pub jobs : is_running run stage facts ≡ true → (job : ℕ) →
      JobIsQuiet facts moment later one run stage job
  pub checks : is_waiting one run stage facts ≡ true →
      ChecksAreQuiet facts moment later told one run stage

abbrev pub IsQuiet : List Fact → ℕ → ℕ → ℕ → Type 0
IsQuiet facts moment run later = (told : QueuedRun) (one : PlanStage) (stage : ℕ) →
    IsStageOf facts run stage told one → StageIsQuiet facts moment later told one run stage

-- the same of the stage at a place of the plan of a run that was queued so
abbrev pub PlaceIsQuiet : List Fact → ℕ → ℕ → QueuedRun → ℕ → ℕ → Type 0
PlaceIsQuiet facts moment run told stage later = (one : PlanStage) →
    slice_get told.compiled.plan.stages stage ≡ Some one →
    StageIsQuiet facts moment later told one run stage
