use Rattle.std.proofs.Common.{arith, sym, ◌∙◌}
use Rattle.pl_results.specs.declared.members.PlanNode.TheVariants.{Job}
use Rattle.pl_due.specs.Asked.{facts_of}
use Rattle.pl_due.specs.Nodes.{condition}
use Rattle.pl_due.specs.Tests.{awaits, is_passed_over}
use Rattle.pl_due.proofs.Fits.{few_jobs_at}
use Rattle.pl_due.proofs.Judged.{none_awaits, not_passed}
use Rattle.pl_due.proofs.Ranges.{first_here, none_at_all, none_yet}
use Rattle.pl_due.proofs.jobs.first_false.Goals as goal

pub overflow_cast-job-end : goal.overflow_cast-job-end
overflow_cast-job-end c =
    omega (arith, c.len-job-end.ensures, few_jobs_at c.args.at.now c.requires.asked)

pub loop-job-init : goal.loop-job-init
loop-job-init c = λ job below.
    let at = c.args.at.now in
    not_passed (awaits at job) (condition at.queued.now at.run (Job at.stage job) (facts_of at))
    (c.requires.before.1 job below)

pub returns-then-branch : goal.returns-then-branch
returns-then-branch c =
    first_here (is_passed_over c.args.at.now) c.loop-job.job
    (sym c.in_ok-is_false.ensures ∙ c.if-branch.true) c.loop-job.invariant

pub loop-job-preserved : goal.loop-job-preserved
loop-job-preserved c =
    none_yet (is_passed_over c.args.at.now) c.loop-job.job
    (sym c.in_ok-is_false.ensures ∙ c.if-branch.false) c.loop-job.invariant

pub returns : goal.returns
returns c =
    let at = c.args.at.now in
    none_at_all (is_passed_over at) c.loop-job.job c.loop-job.invariant (λ job behind.
    not_passed (awaits at job) (condition at.queued.now at.run (Job at.stage job) (facts_of at))
    (none_awaits at.planned.now at.run at.stage (facts_of at) job
    (omega (arith, c.len-job-end.ensures, c.loop-job-test.false, behind))))
