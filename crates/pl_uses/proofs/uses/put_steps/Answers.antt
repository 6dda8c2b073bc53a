use Rattle.std.specs.Prelude.{flat_map}
use Rattle.pl_uses.specs.Uses.{step_uses, kept, put_all}
use Rattle.pl_uses.proofs.Putting.{put_more}
use Rattle.pl_uses.proofs.uses.put_steps.Goals as goal

pub loop-step-preserved : goal.loop-step-preserved
loop-step-preserved c =
    let uses = step_uses c.args.repositories.now in
    put_more uses (put_all (kept c.args.uses.now) (flat_map uses c.args.steps.now))
    (kept c.loop-step.uses) (kept c.put_step.new.uses) c.args.steps.now c.loop-step.step-index
    c.step-item.result c.loop-step.invariant c.loop-step-test.true c.step-item.is
    c.in_ok-put_step.ensures
