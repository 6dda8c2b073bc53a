use Rattle.std.proofs.Common.{◌≡◌, ◌<◌, ℕ, false}
use Rattle.pl_granting.specs.Tests.{may_take_at}
use Rattle.pl_granting.proofs.drawing.first_place.Given as goal

-- no job before this one
abbrev pub invariant-loop-job : goal.invariant-loop-job
invariant-loop-job l = (at : ℕ) → at < l.job →
    may_take_at l.journal.facts l.agent l.fn.run l.fn.stage l.queued l.staged at ≡ false
