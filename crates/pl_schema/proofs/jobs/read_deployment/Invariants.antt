use Rattle.std.proofs.Common.{◌≡◌, drop}
use Rattle.pl_schema_parts.specs.Rows.{in_order, read_pair}
use Rattle.pl_schema_parts.specs.Names.{taken}
use Rattle.pl_schema.specs.Jobs.{deployment_row}
use Rattle.pl_schema.proofs.jobs.read_deployment.Given as goal

abbrev pub invariant-loop-pair : goal.invariant-loop-pair
invariant-loop-pair l = in_order (read_pair (deployment_row (taken l.names))) l.initial.job l.pairs
    ≡ in_order (read_pair (deployment_row (taken l.names))) l.job (drop l.pair-index l.pairs)
