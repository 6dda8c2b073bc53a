use Rattle.std.proofs.Common.{◌∙◌}
use Rattle.pl_lock_queues.specs.Queues.{marked}
use Rattle.pl_lock_queues.proofs.Keys.{held_more, own_among}
use Rattle.pl_lock_queues.proofs.marks.hold_all.Goals as goal

pub set_mark-requires : goal.set_mark-requires
set_mark-requires c =
    c.loop-key.invariant.kept c.key-item.result
    ∙ c.requires c.key-item.result (own_among c.args.keys.now c.loop-key.key-index
    c.key-item.result c.loop-key-test.true c.key-item.is)

pub loop-key-preserved : goal.loop-key-preserved
loop-key-preserved c = record {
  so_far = held_more c.args.keys.now c.loop-key.key-index c.key-item.result
      c.loop-key-test.true c.key-item.is (marked c.args.marks.now) (marked c.loop-key.marks)
      (marked c.set_mark.new.marks) c.set_mark.ensures.marked c.loop-key.invariant.so_far;
  kept = λ other. c.set_mark.ensures.kept other ∙ c.loop-key.invariant.kept other;
}
