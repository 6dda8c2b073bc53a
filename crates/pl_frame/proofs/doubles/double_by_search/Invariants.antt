use Rattle.std.proofs.Common.{◌≡◌, [], map, take, drop}
use Rattle.pl_frame.specs.Doubles.{double_in}
use Rattle.pl_frame.proofs.doubles.double_by_search.Given as goal

abbrev pub invariant-loop-at : goal.invariant-loop-at
invariant-loop-at l =
    double_in [] l.pairs ≡ double_in (map (λ pair. pair.key) (take l.at l.pairs))
    (drop l.at l.pairs)
