use Rattle.std.specs.List.{AllAdjacentBelow}
use Rattle.pl_sqlkeeper.specs.Kept.{Rises}
use Rattle.pl_sqlkeeper.proofs.numbers.all_rise.Given as goal

abbrev pub invariant-loop-at : goal.invariant-loop-at
invariant-loop-at l = AllAdjacentBelow Rises l.stored l.at
