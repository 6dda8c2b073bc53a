use Rattle.std.proofs.Common.{◌≡◌, map, take}
use Rattle.pl_cond.specs.Objects.{part_pair}
use Rattle.pl_cond.proofs.objects.parts_value.Given as goal

abbrev pub invariant-loop-part : goal.invariant-loop-part
invariant-loop-part l = l.pairs ≡ map (part_pair l.here) (take l.part-index l.parts)
