-- What is found in one run, and until when it stays.
use Rattle.std.specs.Prelude.{◌≡◌, ◌≤◌, ◌<◌, ℕ, List, Option, Some, None, IfSome}
use Rattle.pl_facts.specs.declared.fact.Fact.{Fact}
use Rattle.pl_due.specs.Contention.{AreThose, Holds, InRun, IsEligible}
use Rattle.pl_run_laws.specs.ByRuns.{FirstIn, Found, kinds}
use Rattle.pl_wakes.specs.Steady.{IsBefore}
use Rattle.pl_looks.specs.declared.types.First.{First}
use Rattle.pl_looks.specs.declared.types.Kind.{Kind}
use Rattle.pl_looks.specs.declared.types.Kind.TheVariants as kind
use Rattle.pl_looks.specs.declared.types.Look.{Look}
use Rattle.pl_looks.specs.Jobs.{ready_jobs, taken_jobs}

-- a stage of this run of which something holds
abbrev pub OfRun : ℕ → InRun → InRun
OfRun run P told one r stage = (r ≡ run) × P told one r stage

abbrev pub kind_number : Kind → ℕ
kind_number kind.TimesOut = 0
kind_number kind.JobIsPassedOver = 1
kind_number kind.IsDone = 2
kind_number kind.IsPassedOver = 3
kind_number kind.Fails = 4

abbrev pub found_of : Option First → Found
found_of None = None
found_of (Some first) = Some (kind_number first.kind, first.event)

-- What is found in the run at a moment. Where something is due in it, its eligible stages aren't
-- told.
pub record Stands (facts : List Fact) (moment run : ℕ) (look : Look) : Type 0 where
  pub first : FirstIn facts 0 (kinds facts moment) run (found_of look.first)
  pub eligible : look.first ≡ None →
      AreThose facts (OfRun run (IsEligible facts moment)) look.eligible
  pub holders : AreThose facts (OfRun run (Holds facts)) look.holders
  pub ready : look.ready ≡ ready_jobs run facts
  pub taken : look.taken ≡ taken_jobs run facts

-- and that it stays at each later moment before the one that is told
pub record IsLook (facts : List Fact) (moment run : ℕ) (look : Look) : Type 0 where
  pub now : Stands facts moment run look
  pub wakes : IfSome look.wakes (λ at. moment < at)
  pub until : (later : ℕ) → moment ≤ later → IsBefore later look.wakes →
      Stands facts later run look
