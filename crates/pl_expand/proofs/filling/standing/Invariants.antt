use Rattle.std.proofs.Common.{◌≡◌, filter}
use Rattle.pl_expand.specs.Tree.{stands}
use Rattle.pl_expand.proofs.filling.standing.Given as goal

abbrev pub invariant-loop-pair : goal.invariant-loop-pair
invariant-loop-pair l = l.kept ≡ filter stands l.yielded
