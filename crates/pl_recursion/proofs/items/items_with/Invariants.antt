use Rattle.std.proofs.Common.{◌≡◌, ◌++◌}
use Rattle.pl_recursion.proofs.items.items_with.Given as goal

abbrev pub invariant-loop-item : goal.invariant-loop-item
invariant-loop-item l = l.all ≡ l.fn.before.items ++ l.yielded
