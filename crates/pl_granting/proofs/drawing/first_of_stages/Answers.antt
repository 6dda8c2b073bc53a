use Rattle.std.proofs.Common.{ap, arith, length}
use Rattle.pl_due.proofs.Fits.{few_stages}
use Rattle.pl_plan.specs.declared.plan.Compiled.{Compiled}
use Rattle.pl_granting.proofs.LeastJob.{one_queued, run_none}
use Rattle.pl_granting.proofs.drawing.first_of_stages.Goals as goal

pub overflow_cast-stage-end : goal.overflow_cast-stage-end
overflow_cast-stage-end c =
    let few = few_stages c.args.journal.now.facts c.args.run c.args.queued.now c.requires.fit
    c.requires.there in
    let same = ap (λ (one : Compiled). length one.plan.stages) c.deref.ensures in
    omega (arith, few, same, c.len-stage-end.ensures)

pub returns : goal.returns
returns c =
    let same = ap (λ (one : Compiled). length one.plan.stages) c.deref.ensures in
    run_none c.args.journal.now.facts c.args.agent.now c.args.run c.args.queued.now
    c.loop-stage.stage c.loop-stage.invariant
    (one_queued c.args.journal.now.facts c.args.run c.args.queued.now c.requires.there)
    (omega (arith, same, c.len-stage-end.ensures, c.loop-stage-test.false))
