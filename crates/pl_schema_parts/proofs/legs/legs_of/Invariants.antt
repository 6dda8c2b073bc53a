use Rattle.std.proofs.Common.{◌≡◌, [], ◌∷◌, false, drop}
use Rattle.pl_schema_parts.specs.Rows.{in_order, read_pair}
use Rattle.pl_schema_parts.specs.Legs.{no_legs, legs_row, judge_leg, judge_value}
use Rattle.pl_schema_parts.proofs.legs.legs_of.Given as goal

abbrev pub invariant-loop-pair : goal.invariant-loop-pair
invariant-loop-pair l = in_order (read_pair legs_row) no_legs l.pairs ≡ in_order
    (read_pair legs_row) l.legs (drop l.pair-index l.pairs)
