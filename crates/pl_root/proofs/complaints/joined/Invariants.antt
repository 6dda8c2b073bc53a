use Rattle.std.proofs.Common.{◌≡◌, ◌++◌}
use Rattle.pl_root.proofs.complaints.joined.Given as goal

abbrev pub invariant-loop-complaint : goal.invariant-loop-complaint
invariant-loop-complaint l = l.all ≡ l.fn.first ++ l.yielded
