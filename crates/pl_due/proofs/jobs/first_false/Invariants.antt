use Rattle.std.proofs.Common.{◌≡◌, ◌<◌, ℕ, false}
use Rattle.pl_due.specs.Tests.{is_passed_over}
use Rattle.pl_due.proofs.jobs.first_false.Given as goal

-- no job before this one
abbrev pub invariant-loop-job : goal.invariant-loop-job
invariant-loop-job l = (at : ℕ) → at < l.job → is_passed_over l.at at ≡ false
