use Rattle.std.proofs.Common.{◌≡◌, map, take}
use Rattle.pl_cond.specs.Objects.{group_pair}
use Rattle.pl_cond.proofs.objects.groups_value.Given as goal

abbrev pub invariant-loop-group : goal.invariant-loop-group
invariant-loop-group l = l.pairs ≡ map (group_pair l.here) (take l.group-index l.groups)
