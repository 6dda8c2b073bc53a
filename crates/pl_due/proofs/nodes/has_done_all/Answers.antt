use Rattle.std.proofs.Common.{length, not, ap, arith, sym, ◌∙◌}
use Rattle.pl_journal.specs.Runs.{job_ending}
use Rattle.pl_views.specs.Ready.{job_has_ended}
use Rattle.pl_due.specs.Asked.{facts_of}
use Rattle.pl_due.proofs.Fits.{few_jobs_at}
use Rattle.pl_due.proofs.Ranges.{all_more, not_all}
use Rattle.pl_due.proofs.Standing.{some_by}
use Rattle.pl_due.proofs.nodes.has_done_all.Goals as goal

pub overflow_cast-job : goal.overflow_cast-job
overflow_cast-job c = omega (
  arith,
  c.len-job-end.ensures,
  c.loop-job-test.true,
  few_jobs_at c.args.at.now c.requires,
)

pub returns-then-is_none : goal.returns-then-is_none
returns-then-is_none c =
    let at = c.args.at.now in
    sym (not_all (job_has_ended at.run at.stage (facts_of at)) c.loop-job.job
    (length at.planned.now.jobs) (omega (arith, c.len-job-end.ensures, c.loop-job-test.true))
    (some_by c.job_ending.result (job_ending at.run at.stage c.loop-job.job (facts_of at))
    c.is_none.result c.job_ending.ensures c.is_none.ensures ∙ ap not c.if-is_none.true))

pub loop-job-preserved : goal.loop-job-preserved
loop-job-preserved c =
    let at = c.args.at.now in
    all_more (job_has_ended at.run at.stage (facts_of at)) c.loop-job.job c.loop-job.invariant
    (some_by c.job_ending.result (job_ending at.run at.stage c.loop-job.job (facts_of at))
    c.is_none.result c.job_ending.ensures c.is_none.ensures ∙ ap not c.if-is_none.false)
