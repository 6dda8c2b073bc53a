use Rattle.std.proofs.Common.{◌≡◌, map}
use Rattle.pl_eval.proofs.projecting.property_values.Given as goal

abbrev pub invariant-loop-pair : goal.invariant-loop-pair
invariant-loop-pair l = l.values ≡ map (λ pair. pair.item) l.yielded
