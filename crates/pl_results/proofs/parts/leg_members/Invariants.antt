use Rattle.std.proofs.Common.{◌≡◌, take}
use Rattle.pl_results.specs.Parts as spec
use Rattle.pl_results.proofs.parts.leg_members.Given as goal

abbrev pub invariant-loop-leg : goal.invariant-loop-leg
invariant-loop-leg l = l.members ≡ spec.leg_members (take l.leg-index l.legs)
