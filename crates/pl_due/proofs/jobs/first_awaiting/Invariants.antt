use Rattle.std.proofs.Common.{◌≡◌, ◌<◌, ℕ, false}
use Rattle.pl_due.specs.Tests.{awaits}
use Rattle.pl_due.proofs.jobs.first_awaiting.Given as goal

-- no job before this one
abbrev pub invariant-loop-job : goal.invariant-loop-job
invariant-loop-job l = (at : ℕ) → at < l.job → awaits l.at at ≡ false
