use Rattle.std.proofs.Common.{◌≡◌, [], ◌∷◌, false, drop}
use Rattle.pl_schema_parts.specs.Rows.{in_order, read_pair}
use Rattle.pl_schema_parts.specs.Names.{taken}
use Rattle.pl_schema.specs.Stages.{stage_row}
use Rattle.pl_schema.proofs.stages.read_stage.Given as goal

abbrev pub invariant-loop-pair : goal.invariant-loop-pair
invariant-loop-pair l = in_order (read_pair (stage_row (taken l.names))) l.initial.stage l.pairs ≡
    in_order (read_pair (stage_row (taken l.names))) l.stage (drop l.pair-index l.pairs)
