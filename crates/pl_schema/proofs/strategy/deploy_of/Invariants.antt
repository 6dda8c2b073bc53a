use Rattle.std.proofs.Common.{◌≡◌, [], drop}
use Rattle.std.specs.Prelude.{codes}
use Rattle.pl_schema.specs.Jobs.{held_row}
use Rattle.pl_schema_parts.specs.Steps.{steps_in}
use Rattle.pl_schema_parts.specs.Rows.{in_order, read_pair}
use Rattle.pl_schema.proofs.strategy.deploy_of.Given as goal

abbrev pub invariant-loop-pair : goal.invariant-loop-pair
invariant-loop-pair l =
    in_order (read_pair (held_row (codes "steps") steps_in)) [] l.pairs
    ≡ in_order (read_pair (held_row (codes "steps") steps_in)) l.steps (drop l.pair-index l.pairs)
