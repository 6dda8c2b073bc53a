-- Agents that hold one job at most.
use Rattle.std.specs.Prelude.{◌≡◌, ◌≤◌, ℕ, List, [], ◌∷◌, None, Some}
use Rattle.std.specs.List.{AllByRecursion}
use Rattle.pl_facts.specs.declared.fact.Fact.{Fact}
use Rattle.pl_journal.specs.About.{latest_also}
use Rattle.pl_journal.specs.Runs.{job_end, taker_told, taking}
use Rattle.pl_kept.specs.Kept.{planned_job}
use Rattle.pl_log.specs.Keys.{Taker}

-- facts in the order of their moments
abbrev pub Rise : List Fact → Type 0
Rise [] = Unit {0}
Rise (fact ∷ facts) = AllByRecursion (λ later. fact.moment ≤ later.moment) facts × Rise facts

-- the agent took the job, which hasn't ended by itself
pub record HoldsJob (facts : List Fact) (agent : List ℕ) (run stage job : ℕ) : Type 0 where
  pub take : Fact
  pub is : taking run stage job facts ≡ Some take
  pub who : taker_told take.event ≡ Some agent
  pub unended : job_end run stage job facts ≡ None

pub record HoldOne (facts : List Fact) : Type 0 where
  pub rise : Rise facts
  -- a job that was taken is planned
  pub planned : (run stage job : ℕ) → ¬ (taking run stage job facts ≡ None) →
      ¬ (planned_job run stage job facts ≡ None)
  -- an agent holds one job at most
  pub one : (agent : List ℕ) (run stage job r s j : ℕ) → HoldsJob facts agent run stage job →
      HoldsJob facts agent r s j → (run ≡ r) × (stage ≡ s) × (job ≡ j)
  -- and none that it took before the moment at which it took one last
  pub last : (agent : List ℕ) (run stage job : ℕ) (its : HoldsJob facts agent run stage job)
      (last : Fact) → latest_also (Taker agent) facts ≡ Some last → last.moment ≤ its.take.moment
