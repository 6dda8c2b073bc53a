use Rattle.std.proofs.Common.{◌≡◌, drop}
use Rattle.pl_schema_parts.specs.Rows.{in_order, read_pair}
use Rattle.pl_schema.specs.Pipelines.{new_root, root_row}
use Rattle.pl_schema.proofs.root.read_root.Given as goal

abbrev pub invariant-loop-pair : goal.invariant-loop-pair
invariant-loop-pair l = in_order (read_pair (root_row l.steps)) new_root l.pairs ≡ in_order
    (read_pair (root_row l.steps)) l.root (drop l.pair-index l.pairs)
