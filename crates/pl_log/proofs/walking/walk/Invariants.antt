use Rattle.std.proofs.Common.{◌≤◌, length}
use Rattle.pl_log.proofs.Walks.{WalksFor}
use Rattle.pl_log.proofs.walking.walk.Given as goal

abbrev pub invariant-loop-number : goal.invariant-loop-number
invariant-loop-number g l = record {
  within : l.number ≤ length l.kept;
  walks : WalksFor l.link (g.F.Test.passes l.test) l.kept l.fn.from l.number;
}

abbrev pub decreases-loop-number : goal.decreases-loop-number
decreases-loop-number g l = l.number
