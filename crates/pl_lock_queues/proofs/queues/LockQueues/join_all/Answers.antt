use Rattle.std.proofs.Common.{◌∙◌}
use Rattle.pl_lock_queues.proofs.Copied.{last_absent, last_put}
use Rattle.pl_lock_queues.proofs.queues.LockQueues.join_all.Goals as goal

pub join-requires : goal.join-requires
join-requires c = rw (c.in_ok-copy.ensures, c.loop-stage.invariant.copied)
    (last_absent c.args.stages.now c.loop-stage.stage-index c.stage-item.result c.requires.ordered
    c.loop-stage-test.true c.stage-item.is)

pub loop-stage-preserved : goal.loop-stage-preserved
loop-stage-preserved c = record {
  copied = last_put c.args.stages.now c.loop-stage.stage-index c.stage-item.result
      c.requires.ordered c.loop-stage-test.true c.stage-item.is c.join.new.self.holders
      (rw (c.in_ok-copy.ensures, c.loop-stage.invariant.copied) at c.in_ok-join.ensures.holders);
  others = c.in_ok-join.ensures.eligible ∙ c.loop-stage.invariant.others;
}
