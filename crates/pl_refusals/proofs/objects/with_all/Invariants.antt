use Rattle.std.proofs.Common.{◌≡◌, ◌++◌}
use Rattle.pl_refusals.proofs.objects.with_all.Given as goal

abbrev pub invariant-loop-member : goal.invariant-loop-member
invariant-loop-member l = l.members ≡ l.fn.members ++ l.yielded
