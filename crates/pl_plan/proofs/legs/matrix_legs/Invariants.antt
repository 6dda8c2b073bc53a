use Rattle.std.proofs.Common.{◌≡◌, [], drop}
use Rattle.pl_schema_parts.specs.Names.{is_taken}
use Rattle.pl_schema_parts.specs.Rows.{in_turn}
use Rattle.pl_depends.specs.Places.{knows}
use Rattle.pl_plan.specs.Legs.{leg_names, matrix_leg}
use Rattle.pl_plan.proofs.legs.matrix_legs.Given as goal

abbrev pub invariant-loop-leg : goal.invariant-loop-leg
invariant-loop-leg l = record {
  read : in_turn (λ made leg. matrix_leg (is_taken (leg_names made)) leg) [] l.legs ≡ in_turn
      (λ made leg. matrix_leg (is_taken (leg_names made)) leg) l.made (drop l.leg-index l.legs);
  names : knows l.names ≡ is_taken (leg_names l.made);
}
