use Rattle.pl_limits.specs.Limits.{is_new, same_day}
use Rattle.pl_limits.proofs.Behind.{SoFar}
use Rattle.pl_limits.proofs.lists.are_distinct_days.Given as goal

abbrev pub invariant-loop-at : goal.invariant-loop-at
invariant-loop-at l = SoFar (is_new same_day) l.days l.at
