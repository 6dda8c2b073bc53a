use Rattle.std.proofs.Common.{◌≡◌, [], ◌∷◌, false, drop}
use Rattle.pl_schema_parts.specs.Rows.{in_order, read_pair}
use Rattle.pl_schema_parts.specs.Pools.{no_pool, pool_row, environment_row}
use Rattle.pl_schema_parts.proofs.pools.environment_of.Given as goal

abbrev pub invariant-loop-pair : goal.invariant-loop-pair
invariant-loop-pair l = in_order (read_pair environment_row) [] l.pairs ≡ in_order
    (read_pair environment_row) l.name (drop l.pair-index l.pairs)
