use Rattle.std.proofs.Common.{◌≡◌, eqb}
use Rattle.std.specs.List.{filter, list_any, range_with_len}
use Rattle.pl_results.specs.Transitive as spec
use Rattle.pl_results.proofs.places.direct.Given as goal

abbrev pub invariant-loop-at : goal.invariant-loop-at
invariant-loop-at l = l.places ≡ spec.direct l.depends l.at
