use Rattle.pl_cond.proofs.Small.{can_run}
use Rattle.pl_cond.proofs.laws.each_plan_can_run.Goals as goal

pub returns : goal.returns
returns c = can_run c.args.pipeline.now c.args.plan.now c.requires.is.0 c.requires.is.2
    c.requires.sound
