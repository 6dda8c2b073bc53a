use Rattle.std.proofs.Common.{◌∙◌}
use Rattle.pl_lock_queues.proofs.Keys.{made_more}
use Rattle.pl_lock_queues.proofs.marks.make_marks.Goals as goal

pub loop-key-preserved : goal.loop-key-preserved
loop-key-preserved c =
    let now = c.loop-key.invariant in
    record {
      same = λ other. c.make_mark.ensures.same other ∙ now.same other;
      kept = λ other h. c.make_mark.ensures.kept other (now.kept other h);
      made = made_more c.args.keys.now c.loop-key.key-index c.key-item.result
          c.loop-key-test.true c.key-item.is c.loop-key.marks c.make_mark.new.marks
          c.make_mark.ensures.kept c.in_ok-make_mark.ensures.ok now.made;
    }
