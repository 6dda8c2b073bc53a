use Rattle.std.proofs.Common.{◌≡◌}
use Rattle.pl_depends.specs.Places.{places_from}
use Rattle.pl_depends.proofs.places.places_from.Given as goal

abbrev pub invariant-loop-passed : goal.invariant-loop-passed
invariant-loop-passed l = l.places ≡ places_from l.first l.passed
