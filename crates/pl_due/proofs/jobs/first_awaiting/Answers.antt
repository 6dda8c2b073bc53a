use Rattle.std.proofs.Common.{arith, sym, ◌∙◌}
use Rattle.pl_due.specs.Asked.{facts_of}
use Rattle.pl_due.specs.Tests.{awaits}
use Rattle.pl_due.proofs.Fits.{few_jobs_at}
use Rattle.pl_due.proofs.Judged.{none_awaits}
use Rattle.pl_due.proofs.Ranges.{first_here, none_at_all, none_yet}
use Rattle.pl_due.proofs.jobs.first_awaiting.Goals as goal

pub overflow_cast-job-end : goal.overflow_cast-job-end
overflow_cast-job-end c = omega (arith, c.len-job-end.ensures, few_jobs_at c.args.at.now c.requires)

pub returns-then-awaits_agent : goal.returns-then-awaits_agent
returns-then-awaits_agent c =
    first_here (awaits c.args.at.now) c.loop-job.job
    (sym c.awaits_agent.ensures ∙ c.if-awaits_agent.true) c.loop-job.invariant

pub loop-job-preserved : goal.loop-job-preserved
loop-job-preserved c =
    none_yet (awaits c.args.at.now) c.loop-job.job
    (sym c.awaits_agent.ensures ∙ c.if-awaits_agent.false) c.loop-job.invariant

pub returns : goal.returns
returns c =
    let at = c.args.at.now in
    none_at_all (awaits at) c.loop-job.job c.loop-job.invariant (λ job behind.
    none_awaits at.planned.now at.run at.stage (facts_of at) job
    (omega (arith, c.len-job-end.ensures, c.loop-job-test.false, behind)))
