use Rattle.std.proofs.Common.{◌∙◌, ◌∷◌, [], ap, cond}
use Rattle.pl_lock_queues.specs.Queues.{among, marked}
use Rattle.pl_lock_queues.proofs.Keys.{anew_more, own_among}
use Rattle.pl_lock_queues.proofs.marks.mark_anew.Goals as goal

pub set_mark-requires : goal.set_mark-requires
set_mark-requires c =
    c.loop-key.invariant.kept c.key-item.result
    ∙ c.requires c.key-item.result (own_among c.args.keys.now c.loop-key.key-index
    c.key-item.result c.loop-key-test.true c.key-item.is)

pub loop-key-preserved : goal.loop-key-preserved
loop-key-preserved c = record {
  so_far = anew_more c.args.keys.now c.loop-key.key-index c.key-item.result
      c.loop-key-test.true c.key-item.is c.args.holders.now (marked c.args.marks.now)
      (marked c.loop-key.marks) (marked c.set_mark.new.marks)
      (λ other. c.set_mark.ensures.marked other
      ∙ ap (λ b. cond (among (c.key-item.result ∷ []) other) b (marked c.loop-key.marks other))
      c.is_wanted-held.ensures)
      c.loop-key.invariant.so_far;
  kept = λ other. c.set_mark.ensures.kept other ∙ c.loop-key.invariant.kept other;
}
