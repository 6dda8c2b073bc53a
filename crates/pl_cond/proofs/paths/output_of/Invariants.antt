use Rattle.std.proofs.Common.{◌≡◌, drop}
use Rattle.pl_cond.specs.Paths as spec
use Rattle.pl_cond.proofs.paths.output_of.Given as goal

abbrev pub invariant-loop-leg : goal.invariant-loop-leg
invariant-loop-leg l = spec.output_of l.legs l.key ≡ spec.output_of (drop l.leg-index l.legs) l.key
