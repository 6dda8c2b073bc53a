use Rattle.std.proofs.Common.{◌≡◌, ◌++◌}
use Rattle.pl_directives.proofs.contents.with_items.Given as goal

abbrev pub invariant-loop-item : goal.invariant-loop-item
invariant-loop-item l = l.all ≡ l.fn.items ++ l.yielded
