-- What holds of each fact that comes to a journal.
use Rattle.std.specs.Prelude.{ℕ, ◌≤◌, List, All, Option, Some, None}
use Rattle.pl_facts.specs.declared.fact.Fact.{Fact}
use Rattle.pl_facts.specs.declared.fact.QueuedRun.{QueuedRun}
use Rattle.pl_journal.specs.Runs.{run_told}
use Rattle.pl_results.specs.Nodes.{CanRun}

-- 2099-12-31T23:59:59Z, the last moment that a clock tells
abbrev pub last_moment : ℕ
last_moment = 4102444799

abbrev pub CanRunIf : Option QueuedRun → Type 0
CanRunIf None = Unit {0}
CanRunIf (Some told) = CanRun told.compiled.plan

-- its moment is one that a clock tells, and where it queues a run, the run's plan can run
pub record IsFit (fact : Fact) : Type 0 where
  pub moment : fact.moment ≤ last_moment
  pub plan : CanRunIf (run_told fact.event)

abbrev pub AreFit : List Fact → Type 0
AreFit facts = All IsFit facts
