use Rattle.std.proofs.Common.{◌≡◌, ◌++◌, drop}
use Rattle.pl_paths.specs.Paths.{led}
use Rattle.pl_paths.proofs.resolving.led.Given as goal

abbrev pub invariant-loop-segment : goal.invariant-loop-segment
invariant-loop-segment l =
    led l.segments ≡ l.path ++ led (drop l.segment-index l.segment-items)
