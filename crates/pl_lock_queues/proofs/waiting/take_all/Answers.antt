use Rattle.pl_lines.specs.Lines.{stands}
use Rattle.pl_lock_queues.specs.Queues.{key_cmp, place_cmp}
use Rattle.pl_lock_queues.proofs.Keys.{stands_less}
use Rattle.pl_lock_queues.proofs.waiting.take_all.Goals as goal

pub loop-key-preserved : goal.loop-key-preserved
loop-key-preserved c =
    stands_less c.args.keys.now c.loop-key.key-index c.key-item.result c.loop-key-test.true
    c.key-item.is c.args.place (stands key_cmp place_cmp c.args.lines.now.lines)
    (stands key_cmp place_cmp c.loop-key.lines.lines)
    (stands key_cmp place_cmp c.take.new.self.lines) c.take.ensures c.loop-key.invariant
