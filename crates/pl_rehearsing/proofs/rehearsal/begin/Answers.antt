use Rattle.pl_rehearsing.proofs.Parts.{begins_more}
use Rattle.pl_rehearsing.proofs.rehearsal.begin.Goals as goal

pub loop-number-init : goal.loop-number-init
loop-number-init g c = c.in_ok-set_pool.ensures

pub loop-number-preserved : goal.loop-number-preserved
loop-number-preserved g c =
    begins_more g.D.Desk.acts c.args.desk.now c.args.asker.now c.loop-number.desk
    c.queue.new.desk c.loop-number.asker c.queue.new.asker c.loop-number.number
    c.loop-number.invariant c.in_ok-queue.ensures
