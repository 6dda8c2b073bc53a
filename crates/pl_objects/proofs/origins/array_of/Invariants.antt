use Rattle.std.proofs.Common.{◌≡◌, map, take}
use Rattle.pl_objects.specs.Origins.{crossing_object}
use Rattle.pl_objects.proofs.origins.array_of.Given as goal

abbrev pub invariant-loop-crossing : goal.invariant-loop-crossing
invariant-loop-crossing l = l.items ≡
    map crossing_object (map (λ crossing. crossing.now) (take l.crossing-index l.crossings))
