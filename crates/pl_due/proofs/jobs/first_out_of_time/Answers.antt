use Rattle.std.proofs.Common.{arith, sym, ◌∙◌}
use Rattle.pl_due.specs.Asked.{facts_of}
use Rattle.pl_due.specs.Tests.{is_over}
use Rattle.pl_due.proofs.Fits.{few_jobs_at}
use Rattle.pl_due.proofs.Judged.{none_over}
use Rattle.pl_due.proofs.Ranges.{first_here, none_at_all, none_yet}
use Rattle.pl_due.proofs.jobs.first_out_of_time.Goals as goal

pub overflow_cast-job-end : goal.overflow_cast-job-end
overflow_cast-job-end c = omega (arith, c.len-job-end.ensures, few_jobs_at c.args.at.now c.requires)

pub returns-then-is_out_of_time : goal.returns-then-is_out_of_time
returns-then-is_out_of_time c =
    first_here (is_over c.args.at.now) c.loop-job.job
    (sym c.is_out_of_time.ensures ∙ c.if-is_out_of_time.true) c.loop-job.invariant

pub loop-job-preserved : goal.loop-job-preserved
loop-job-preserved c =
    none_yet (is_over c.args.at.now) c.loop-job.job
    (sym c.is_out_of_time.ensures ∙ c.if-is_out_of_time.false) c.loop-job.invariant

pub returns : goal.returns
returns c =
    let at = c.args.at.now in
    none_at_all (is_over at) c.loop-job.job c.loop-job.invariant (λ job behind.
    none_over at.planned.now at.run at.stage (facts_of at) at.moment job
    (omega (arith, c.len-job-end.ensures, c.loop-job-test.false, behind)))
