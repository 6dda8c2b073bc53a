use Rattle.std.proofs.Common.{◌≡◌}
use Rattle.pl_root.specs.Resources.{earliest}
use Rattle.pl_root.proofs.complaints.earliest.Given as goal

abbrev pub invariant-loop-next : goal.invariant-loop-next
invariant-loop-next l = l.first ≡ earliest l.yielded
