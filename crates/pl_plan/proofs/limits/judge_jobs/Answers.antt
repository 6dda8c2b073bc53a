use Rattle.std.proofs.lemmas.Result.{err_from_is_err_and}
use Rattle.pl_depends.specs.declared.fault.PlanCode.TheVariants.{TooManyJobs}
use Rattle.pl_plan.specs.Limits.{leg_seats}
use Rattle.pl_plan.proofs.Spending.{goes_in, stops_in}
use Rattle.pl_plan.proofs.limits.judge_jobs.Goals as goal

pub returns-in_err-left : goal.returns-in_err-left
returns-in_err-left c =
    let p = err_from_is_err_and c.from_residual.result c.from_residual.ensures.1 in
    rw (p.1, p.2) (stops_in TooManyJobs leg_seats 256 c.loop-stage.left c.args.stages.now
    c.loop-stage.stage-index c.stage-item.result c.as_slice.result.now _ c.loop-stage.invariant
    c.loop-stage-test.true c.stage-item.is c.as_slice.ensures c.in_err-left.ensures)

pub loop-stage-preserved : goal.loop-stage-preserved
loop-stage-preserved c = goes_in TooManyJobs leg_seats 256 c.loop-stage.left c.in_ok-left.left
    c.args.stages.now c.loop-stage.stage-index c.stage-item.result c.as_slice.result.now
    c.loop-stage.invariant c.loop-stage-test.true c.stage-item.is c.as_slice.ensures
    c.in_ok-left.ensures
