use Rattle.std.specs.Prelude.{flat_map}
use Rattle.pl_uses.specs.Uses.{task_uses, kept, put_all}
use Rattle.pl_uses.proofs.Putting.{put_more}
use Rattle.pl_uses.proofs.uses.put_task.Goals as goal

pub loop-pair-preserved : goal.loop-pair-preserved
loop-pair-preserved c =
    let uses = task_uses in
    put_more uses (put_all (kept c.args.uses.now) (flat_map uses c.args.pairs.now))
    (kept c.loop-pair.uses) (kept c.put_task_pair.new.uses) c.args.pairs.now c.loop-pair.pair-index
    c.pair-item.result c.loop-pair.invariant c.loop-pair-test.true c.pair-item.is
    c.in_ok-put_task_pair.ensures
