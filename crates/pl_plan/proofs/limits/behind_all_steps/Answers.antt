use Rattle.std.specs.Prelude.{flat_map}
use Rattle.std.proofs.lemmas.Result.{err_from_is_err_and}
use Rattle.pl_depends.specs.declared.fault.PlanCode.TheVariants.{TooManySteps}
use Rattle.pl_plan.specs.Limits.{left_over, step_seats}
use Rattle.pl_plan.proofs.Spending.{goes_on, stops}
use Rattle.pl_plan.proofs.limits.behind_all_steps.Goals as goal

pub returns-in_err-left : goal.returns-in_err-left
returns-in_err-left c =
    let p = err_from_is_err_and c.from_residual.result c.from_residual.ensures.1 in
    rw (p.1, p.2) (stops TooManySteps step_seats
    (left_over TooManySteps c.args.left (flat_map step_seats c.args.jobs.now)) c.loop-job.left
    c.args.jobs.now c.loop-job.job-index c.job-item.result _ c.loop-job.invariant
    c.loop-job-test.true c.job-item.is c.in_err-left.ensures)

pub loop-job-preserved : goal.loop-job-preserved
loop-job-preserved c = goes_on TooManySteps step_seats
    (left_over TooManySteps c.args.left (flat_map step_seats c.args.jobs.now)) c.loop-job.left
    c.in_ok-left.left c.args.jobs.now c.loop-job.job-index c.job-item.result c.loop-job.invariant
    c.loop-job-test.true c.job-item.is c.in_ok-left.ensures
