use Rattle.std.proofs.Common.{◌≡◌, ◌++◌}
use Rattle.pl_directives.proofs.contents.with_pairs.Given as goal

abbrev pub invariant-loop-pair : goal.invariant-loop-pair
invariant-loop-pair l = l.all ≡ l.fn.pairs ++ l.yielded
