use Rattle.std.proofs.Common.{◌<◌, ◌+◌, ℕ, arith, subst, sym}
use Rattle.std.specs.Option.{IfSome}
use Rattle.pl_due.proofs.Fits.{few_jobs_at}
use Rattle.pl_due.specs.Asked.{facts_of}
use Rattle.pl_wakes.proofs.Staying.{later_both}
use Rattle.pl_looks.specs.Quiet.{JobIsQuiet, StaysUntil}
use Rattle.pl_looks.proofs.Until.{is_there, stays_more}
use Rattle.pl_looks.proofs.quiet.jobs_until.Goals as goal

pub overflow_cast-job-end : goal.overflow_cast-job-end
overflow_cast-job-end c = omega (arith, c.len-job-end.ensures, few_jobs_at c.args.at.now c.requires)

pub loop-job-preserved : goal.loop-job-preserved
loop-job-preserved c =
    let at = c.args.at.now in
    let Q = λ (later job : ℕ).
    JobIsQuiet (facts_of at) at.moment later at.planned.now at.run at.stage job in
    record {
      later = subst (λ both. IfSome both (λ until. at.moment < until)) (sym c.sooner-until.ensures)
          (later_both at.moment c.loop-job.until c.job_until.result c.loop-job.invariant.later
          c.job_until.ensures.later);
      quiet = subst (StaysUntil (λ later. (k : ℕ) → k < c.loop-job.job + 1 → Q later k) at.moment)
          (sym c.sooner-until.ensures)
          (stays_more Q c.loop-job.job at.moment c.loop-job.until c.job_until.result
          c.loop-job.invariant.quiet c.job_until.ensures.quiet);
    }

pub returns-clause-quiet : goal.returns-clause-quiet
returns-clause-quiet c = λ later behind before job over.
    let at = c.args.at.now in
    let there = is_there (facts_of at) later at.planned.now at.run at.stage job over in
    c.loop-job.invariant.quiet later behind before job
    (omega (arith, there, c.len-job-end.ensures, c.loop-job-test.false)) over
