use Rattle.pl_limits.specs.Limits.{follows}
use Rattle.pl_limits.proofs.Behind.{SoFar}
use Rattle.pl_limits.proofs.lists.ascend.Given as goal

abbrev pub invariant-loop-at : goal.invariant-loop-at
invariant-loop-at l = SoFar follows l.pairs l.at
