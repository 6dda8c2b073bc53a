use Rattle.std.proofs.Common.{rules}
use Rattle.pl_schema_parts.specs.Rows.{read_pair}
use Rattle.pl_schema_parts.specs.Names.{taken}
use Rattle.pl_schema.specs.Jobs.{job_row}
use Rattle.pl_schema_parts.proofs.Order.{stop, go_on}
use Rattle.pl_schema.proofs.jobs.read_job.Goals as goal

pub returns-in_err-job_pair : goal.returns-in_err-job_pair
returns-in_err-job_pair c =
    let stopped = stop (read_pair (job_row (taken c.args.names.now))) c.args.job.now c.loop-pair.job
    c.args.pairs.now c.loop-pair.pair-index c.pair-item.result c.in_err-job_pair.field-0.0
    c.loop-pair.invariant c.loop-pair-test.true c.pair-item.is c.in_err-job_pair.ensures in
    search (rules, stopped)

pub loop-pair-preserved : goal.loop-pair-preserved
loop-pair-preserved c = go_on (read_pair (job_row (taken c.args.names.now))) c.args.job.now
    c.loop-pair.job c.job_pair.new.job c.args.pairs.now c.loop-pair.pair-index c.pair-item.result
    c.loop-pair.invariant c.loop-pair-test.true c.pair-item.is c.in_ok-job_pair.ensures
