use Rattle.pl_views.proofs.Turns.{mark_turn}
use Rattle.pl_views.proofs.marks.push_marks.Goals as goal

pub loop-step-preserved : goal.loop-step-preserved
loop-step-preserved c = mark_turn c.args.job.now c.as_slice-step-items.result.now
    c.loop-step.step-index c.loop-step.number c.in_ok-number.number c.step-item.result
    c.args.marks.now c.loop-step.marks c.push.new.self c.in_ok-step_mark.field-0
    c.loop-step-test.true c.loop-step.invariant c.in_ok-number.ensures c.step-item.is
    c.in_ok-step_mark.ensures c.in_ok-push.ensures.ok
