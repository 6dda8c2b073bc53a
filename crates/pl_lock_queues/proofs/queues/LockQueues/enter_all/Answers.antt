use Rattle.std.proofs.Common.{◌∙◌}
use Rattle.pl_lock_queues.proofs.Copied.{last_absent, last_put}
use Rattle.pl_lock_queues.proofs.queues.LockQueues.enter_all.Goals as goal

pub enter-requires : goal.enter-requires
enter-requires c = rw (c.in_ok-copy.ensures, c.loop-stage.invariant.copied)
    (last_absent c.args.stages.now c.loop-stage.stage-index c.stage-item.result c.requires.ordered
    c.loop-stage-test.true c.stage-item.is)

pub loop-stage-preserved : goal.loop-stage-preserved
loop-stage-preserved c = record {
  copied = last_put c.args.stages.now c.loop-stage.stage-index c.stage-item.result
      c.requires.ordered c.loop-stage-test.true c.stage-item.is c.enter.new.self.eligible
      (rw (c.in_ok-copy.ensures, c.loop-stage.invariant.copied) at c.in_ok-enter.ensures.eligible);
  others = c.in_ok-enter.ensures.holders ∙ c.loop-stage.invariant.others;
}
