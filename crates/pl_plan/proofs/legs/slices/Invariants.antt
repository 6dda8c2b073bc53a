use Rattle.std.proofs.Common.{◌≡◌}
use Rattle.pl_plan.specs.Legs.{first_slices}
use Rattle.pl_plan.proofs.legs.slices.Given as goal

abbrev pub invariant-loop-before : goal.invariant-loop-before
invariant-loop-before l = l.legs ≡ first_slices l.count l.before
