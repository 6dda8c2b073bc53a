use Rattle.std.proofs.Common.{◌≡◌, [], drop}
use Rattle.pl_schema_parts.specs.Rows.{in_turn}
use Rattle.pl_plan.specs.Legs.{leg_variable}
use Rattle.pl_plan.proofs.legs.variables_of.Given as goal

abbrev pub invariant-loop-pair : goal.invariant-loop-pair
invariant-loop-pair l = in_turn (λ before pair. leg_variable l.leg pair) [] l.pairs ≡ in_turn
    (λ before pair. leg_variable l.leg pair) l.variables (drop l.pair-index l.pairs)
