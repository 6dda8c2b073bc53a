use Rattle.std.proofs.Common.{◌≡◌, take}
use Rattle.std.specs.Prelude.{flat_map}
use Rattle.pl_cond.specs.Objects.{output_pairs}
use Rattle.pl_cond.proofs.objects.outputs_value.Given as goal

abbrev pub invariant-loop-leg : goal.invariant-loop-leg
invariant-loop-leg l = l.pairs ≡ flat_map (output_pairs l.here) (take l.leg-index l.legs)
