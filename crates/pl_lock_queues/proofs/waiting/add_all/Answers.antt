use Rattle.pl_lines.specs.Lines.{stands}
use Rattle.pl_lock_queues.specs.Queues.{key_cmp, place_cmp}
use Rattle.pl_lock_queues.proofs.Bools.{on_err}
use Rattle.pl_lock_queues.proofs.Keys.{stands_else, stands_more}
use Rattle.pl_lock_queues.proofs.waiting.add_all.Goals as goal

pub loop-key-preserved : goal.loop-key-preserved
loop-key-preserved c =
    stands_more c.args.keys.now c.loop-key.key-index c.key-item.result c.loop-key-test.true
    c.key-item.is c.args.place (stands key_cmp place_cmp c.args.lines.now.lines)
    (stands key_cmp place_cmp c.loop-key.lines.lines) (stands key_cmp place_cmp c.add.new.self.lines)
    c.in_ok-add.ensures.ok c.loop-key.invariant

pub returns-in_err-add-clause-err : goal.returns-in_err-add-clause-err
returns-in_err-add-clause-err c = on_err c.from_residual.result _ (
    stands_else c.args.keys.now c.loop-key.key-index c.key-item.result c.loop-key-test.true
    c.key-item.is c.args.place (stands key_cmp place_cmp c.args.lines.now.lines)
    (stands key_cmp place_cmp c.loop-key.lines.lines) (stands key_cmp place_cmp c.add.new.self.lines)
    c.in_err-add.ensures.err c.loop-key.invariant)
