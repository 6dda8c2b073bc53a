use Rattle.std.proofs.Common.{◌≡◌, ◌++◌}
use Rattle.pl_expand.proofs.merging.joined.Given as goal

abbrev pub invariant-loop-item : goal.invariant-loop-item
invariant-loop-item l = l.all ≡ l.fn.items ++ l.yielded
