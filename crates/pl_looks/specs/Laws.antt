-- What a schedule believes of looks.
use Rattle.std.specs.Prelude.{◌↔◌, ℕ, List, [], Contains, None}
use Rattle.pl_facts.specs.declared.fact.Fact.{Fact}
use Rattle.pl_facts.specs.declared.fact.QueuedRun.{QueuedRun}
use Rattle.pl_locks.specs.Kept.{IsOrdered}
use Rattle.pl_locks.specs.declared.contender.Contender.{Contender}
use Rattle.pl_facts.specs.Below.pl_plan.specs.declared.plan.PlanStage.{PlanStage}
use Rattle.pl_due.specs.Nodes.{IsStageOf}
use Rattle.pl_run_laws.specs.Uses.{AreSameUses}
use Rattle.pl_looks.specs.declared.types.Look.{Look}
use Rattle.pl_looks.specs.Looks.{IsLook}

-- the resources that the run's stages use are set alike
abbrev pub SameUsesOf : ℕ → List Fact → List Fact → Type 0
SameUsesOf run old new = (told : QueuedRun) (one : PlanStage) (stage : ℕ) →
    IsStageOf old run stage told one → AreSameUses one.uses old new

-- nothing is due in a run, and no stage or job of it wants anything, ever
abbrev pub nothing : Look
nothing = record {
  first = None;
  eligible = [];
  holders = [];
  ready = [];
  taken = [];
  wakes = None;
}

-- what is found in each run
abbrev pub AreLooks : List Fact → ℕ → (ℕ → Look) → Type 0
AreLooks facts moment looks = (run : ℕ) → IsLook facts moment run (looks run)

-- in order, and the members of all runs' lists
pub record AreGathered (lists : ℕ → List Contender) (stages : List Contender) : Type 0 where
  pub ordered : IsOrdered stages
  pub members : (stage : Contender) → (Contains stages stage ↔ Contains (lists stage.run) stage)
