use Rattle.std.proofs.Common.{◌≡◌, [], ◌∷◌, false, drop}
use Rattle.pl_schema_parts.specs.Rows.{in_order, read_pair}
use Rattle.pl_schema_parts.specs.Names.{taken}
use Rattle.pl_schema_parts.specs.Steps.{step_pair}
use Rattle.pl_schema_parts.proofs.steps.judge_pairs.Given as goal

abbrev pub invariant-loop-pair : goal.invariant-loop-pair
invariant-loop-pair l = in_order (step_pair (taken l.names)) false l.pairs ≡ in_order
    (step_pair (taken l.names)) l.begun (drop l.pair-index l.pairs)
