use Rattle.std.proofs.Common.{◌≡◌, [], ◌∷◌, false, drop}
use Rattle.pl_schema_parts.specs.Rows.{in_order, read_pair}
use Rattle.pl_schema_parts.specs.Legs.{no_legs, legs_row, judge_leg, judge_value}
use Rattle.pl_schema_parts.proofs.legs.judge_pairs.Given as goal

abbrev pub invariant-loop-pair : goal.invariant-loop-pair
invariant-loop-pair l = in_order judge_value tt l.pairs ≡ in_order judge_value tt
    (drop l.pair-index l.pairs)
