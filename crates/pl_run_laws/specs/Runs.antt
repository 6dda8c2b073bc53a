-- Facts that leave a run as it is.
use Rattle.std.specs.Prelude.{◌≡◌, ℕ, List, Option, Some, None}
use Rattle.pl_facts.specs.declared.fact.Fact.{Fact}
use Rattle.pl_due.specs.Below.pl_journal.specs.About.{key_of}
use Rattle.pl_due.specs.Below.pl_journal.specs.Runs.{canceling, decisions, job_end, queueing, stage_end, stage_start}
use Rattle.pl_due.specs.Below.pl_journal.specs.Runs.{taking}
use Rattle.pl_log.specs.Keys.{Job, Named, Run, Stage}

-- the run, of which or of whose stage or job something is about
abbrev pub run_in : Named → Option ℕ
run_in (Run run) = Some run
run_in (Stage run stage) = Some run
run_in (Job run stage job) = Some run
run_in _ = None

-- a fact that is about another run, or about none
abbrev pub IsElsewhere : ℕ → Fact → Type 0
IsElsewhere run fact = ¬ (run_in (key_of fact.event) ≡ Some run)

-- what has happened to the run, to its stages and to its jobs is the same
pub record IsSameRun (run : ℕ) (old new : List Fact) : Type 0 where
  pub queued : queueing run new ≡ queueing run old
  pub canceled : canceling run new ≡ canceling run old
  pub started : (stage : ℕ) → stage_start run stage new ≡ stage_start run stage old
  pub ended : (stage : ℕ) → stage_end run stage new ≡ stage_end run stage old
  pub taken : (stage job : ℕ) → taking run stage job new ≡ taking run stage job old
  pub finished : (stage job : ℕ) → job_end run stage job new ≡ job_end run stage job old
  pub decided : (stage : ℕ) → decisions run stage new ≡ decisions run stage old
