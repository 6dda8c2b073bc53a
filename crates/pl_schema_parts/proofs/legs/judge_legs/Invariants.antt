use Rattle.std.proofs.Common.{◌≡◌, [], ◌∷◌, false, drop}
use Rattle.pl_schema_parts.specs.Rows.{in_order, read_pair}
use Rattle.pl_schema_parts.specs.Legs.{no_legs, legs_row, judge_leg, judge_value}
use Rattle.pl_schema_parts.proofs.legs.judge_legs.Given as goal

abbrev pub invariant-loop-leg : goal.invariant-loop-leg
invariant-loop-leg l = in_order judge_leg tt l.legs ≡ in_order judge_leg tt
    (drop l.leg-index l.legs)
