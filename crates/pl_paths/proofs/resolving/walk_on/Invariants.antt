use Rattle.std.proofs.Common.{◌≡◌, [], drop, map}
use Rattle.pl_paths.specs.Paths.{walked_on}
use Rattle.pl_paths.proofs.resolving.walk_on.Given as goal

abbrev pub invariant-loop-segment : goal.invariant-loop-segment
invariant-loop-segment l =
    walked_on [] (map (λ segment. segment.now) l.segments)
    ≡ walked_on l.all (map (λ segment. segment.now) (drop l.segment-index l.segments))
