-- Which stages want exclusive resources, and which hold them (Microsoft Learn, Azure Pipelines,
-- "Define approvals and checks", Exclusive lock).
use Rattle.std.specs.Prelude.{◌≡◌, ℕ, true, List, All, Any}
use Rattle.pl_checks.specs.declared.view.Verdict.{Verdict}
use Rattle.pl_facts.specs.declared.fact.Fact.{Fact}
use Rattle.pl_facts.specs.declared.fact.QueuedRun.{QueuedRun}
use Rattle.pl_locks.specs.Kept.{IsOrdered}
use Rattle.pl_locks.specs.Locks.{IsAt, Locks}
use Rattle.pl_locks.specs.declared.contender.Contender.{Contender}
use Rattle.pl_plan.specs.declared.plan.PlanStage.{PlanStage}
use Rattle.pl_results.specs.declared.members.PlanNode.TheVariants.{Stage}
use Rattle.pl_judgement.specs.Said.{all_pass}
use Rattle.pl_due.specs.Checked.{AreVerdictsOf, exclusive_uses, is_permitted}
use Rattle.pl_due.specs.Nodes.{IsStageOf, condition, is_running, is_waiting}

-- a stage that may be started as far as no other stands in its way: it waits for nothing more, its
-- condition is true, its pipeline may use what it uses, and each check passes at this moment
pub record IsEligible (facts : List Fact) (moment : ℕ) (told : QueuedRun) (one : PlanStage)
    (run stage : ℕ) : Type 0 where
  pub waits : is_waiting one run stage facts ≡ true
  pub says : condition told run (Stage stage) facts ≡ true
  pub permitted : is_permitted facts told one ≡ true
  pub verdicts : List Verdict
  pub are : AreVerdictsOf facts moment told one run stage verdicts
  pub pass : all_pass verdicts ≡ true

-- a stage that runs holds what it uses of the resources that are exclusive now
abbrev pub Holds : List Fact → QueuedRun → PlanStage → ℕ → ℕ → Type 0
Holds facts told one run stage = is_running run stage facts ≡ true

-- a stage as one that wants its exclusive resources
abbrev pub contender_of : List Fact → QueuedRun → PlanStage → ℕ → ℕ → Contender
contender_of facts told one run stage = record {
  run = run;
  position = stage;
  pipeline = told.pipeline;
  name = one.name;
  behaviour = one.behaviour;
  resources = exclusive_uses facts one;
}

-- something that holds of stages
abbrev pub InRun : Type 1
InRun = QueuedRun → PlanStage → ℕ → ℕ → Type 0

-- a contender is a stage of a queued run of which it holds
pub record IsOne (facts : List Fact) (P : InRun) (stage : Contender) : Type 0 where
  pub told : QueuedRun
  pub one : PlanStage
  pub there : IsStageOf facts stage.run stage.position told one
  pub holds : P told one stage.run stage.position
  pub is : stage ≡ contender_of facts told one stage.run stage.position

-- all stages of queued runs of which it holds, ascending by run and position
pub record AreThose (facts : List Fact) (P : InRun) (stages : List Contender) : Type 0 where
  pub ordered : IsOrdered stages
  pub only : All (IsOne facts P) stages
  pub all : (told : QueuedRun) (one : PlanStage) (run stage : ℕ) →
      IsStageOf facts run stage told one → P told one run stage → Any (IsAt run stage) stages

abbrev pub locks : List Contender → List Contender → Locks
locks eligible holders = record { eligible = eligible; holders = holders }

-- the eligible stages and the holders
pub record IsContention (facts : List Fact) (moment : ℕ) (locks : Locks) : Type 0 where
  pub eligible : AreThose facts (IsEligible facts moment) locks.eligible
  pub holders : AreThose facts (Holds facts) locks.holders
