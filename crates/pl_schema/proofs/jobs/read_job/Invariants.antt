use Rattle.std.proofs.Common.{◌≡◌, [], ◌∷◌, false, drop}
use Rattle.pl_schema_parts.specs.Rows.{in_order, read_pair}
use Rattle.pl_schema_parts.specs.Names.{taken}
use Rattle.pl_schema.specs.Jobs.{job_row, deployment_row, deploy_in, run_once_in}
use Rattle.pl_schema.proofs.jobs.read_job.Given as goal

abbrev pub invariant-loop-pair : goal.invariant-loop-pair
invariant-loop-pair l = in_order (read_pair (job_row (taken l.names))) l.initial.job l.pairs ≡
    in_order (read_pair (job_row (taken l.names))) l.job (drop l.pair-index l.pairs)
