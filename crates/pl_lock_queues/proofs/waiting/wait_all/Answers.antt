use Rattle.pl_lines.specs.Lines.{stands}
use Rattle.pl_lock_queues.specs.Queues.{key_cmp, place_cmp, waits_at, wants}
use Rattle.pl_lock_queues.proofs.Bools.{undone}
use Rattle.pl_lock_queues.proofs.Changed.{elsewhere}
use Rattle.pl_lock_queues.proofs.waiting.wait_all.Goals as goal

pub returns-in-Ok-clause-ok : goal.returns-in-Ok-clause-ok
returns-in-Ok-clause-ok c = rw (c.as_slice-keys.ensures, c.place_of.ensures) at c.in-Ok.ensures.ok

pub returns-in-Err-clause-err : goal.returns-in-Err-clause-err
returns-in-Err-clause-err c = λ key p.
    let stage = c.args.stage.now in
    let put = rw (c.as_slice-keys.ensures, c.place_of.ensures) at c.in-Err.ensures.err in
    let taken = rw (c.as_slice-keys.ensures, c.place_of-in-Err.ensures) at c.take_all.ensures in
    undone (stands key_cmp place_cmp c.args.lines.now.lines key p)
    (stands key_cmp place_cmp c.add_all.new.lines.lines key p)
    (stands key_cmp place_cmp c.take_all.new.lines.lines key p) (waits_at key p stage)
    (taken key p) (put key p)
    (elsewhere (stands key_cmp place_cmp c.args.lines.now.lines key) (wants key stage) stage p
    (c.requires key))
