use Rattle.std.proofs.Common.{arith, sym, subst, ◌∙◌}
use Rattle.pl_locks.specs.Kept.{IsPutIn}
use Rattle.pl_locks.specs.declared.contender.Contender.{Contender}
use Rattle.pl_locks.proofs.Ordered.{same_at}
use Rattle.pl_lock_queues.specs.Queues.{AreMarked, wants}
use Rattle.pl_lock_queues.proofs.Marked.{found_at, found_out, joined_marks, left_marks}
use Rattle.pl_lock_queues.proofs.Moving.{tested}
use Rattle.pl_lock_queues.proofs.entering.hold.Goals as goal

pub take_at-stage-requires-clause-within : goal.take_at-stage-requires-clause-within
take_at-stage-requires-clause-within c = (rw c.deref.ensures.value at c.in-Some.ensures).within

pub hold_all-requires : goal.hold_all-requires
hold_all-requires c = rw c.take_at-stage.ensures.marks (λ key w.
    let first = rw c.deref.ensures.value at c.in-Some.ensures in
    c.requires.marks.wanted key (tested (wants key) c.args.eligible.now.items c.take_at-stage.result
    (c.in-Some.at, first.within, sym c.take_at-stage.ensures.stage) (rw c.as_slice.ensures at w)))

pub put_in-requires-clause-absent : goal.put_in-requires-clause-absent
put_in-requires-clause-absent c =
    let it = found_at c.args.eligible.now.items c.args.run c.args.position c.in-Some.at
    c.take_at-stage.result (rw c.deref.ensures.value at c.in-Some.ensures)
    c.take_at-stage.ensures.stage in
    rw (it.0, it.1) c.requires.absent

pub put_in-requires-clause-room : goal.put_in-requires-clause-room
put_in-requires-clause-room c = omega (arith, c.take_at-stage.ensures.len, c.requires.room)

pub returns-clause-eligible : goal.returns-clause-eligible
returns-clause-eligible c =
    found_out c.args.eligible.now.items c.take_at-stage.new.eligible.items c.args.run
    c.args.position c.take_at-stage.result (found_at c.args.eligible.now.items c.args.run
    c.args.position c.in-Some.at c.take_at-stage.result
    (rw c.deref.ensures.value at c.in-Some.ensures) c.take_at-stage.ensures.stage)
    c.take_at-stage.ensures.eligible

pub returns-clause-holders : goal.returns-clause-holders
returns-clause-holders c = λ stage there (r, p).
    let first = rw c.deref.ensures.value at c.in-Some.ensures in
    let it = found_at c.args.eligible.now.items c.args.run c.args.position c.in-Some.at
    c.take_at-stage.result first c.take_at-stage.ensures.stage in
    subst (λ (x : Contender). IsPutIn x c.args.holders.now.items c.put_in.new.stages.items)
    (same_at c.args.eligible.now.items c.take_at-stage.result stage c.requires.ordered
    (c.in-Some.at, first.within, sym c.take_at-stage.ensures.stage) there
    (r ∙ sym it.0, p ∙ sym it.1)) c.put_in.ensures.is

pub returns-clause-holders_ordered : goal.returns-clause-holders_ordered
returns-clause-holders_ordered c = c.put_in.ensures.is.ordered

pub returns-clause-room : goal.returns-clause-room
returns-clause-room c = omega (
  arith,
  c.take_at-stage.ensures.len,
  c.put_in.ensures.len,
  c.put_in.ensures.capacity,
  c.requires.room,
)

pub returns-clause-marks : goal.returns-clause-marks
returns-clause-marks c =
    let first = rw c.deref.ensures.value at c.in-Some.ensures in
    let mid : AreMarked c.take_at-stage.new.eligible.items c.args.holders.now.items
    c.take_at-stage.new.queues.marks = rw c.take_at-stage.ensures.marks (left_marks c.args.eligible.now.items
    c.args.holders.now.items c.args.queues.now.marks c.requires.marks c.take_at-stage.result.run
    c.take_at-stage.result.position c.take_at-stage.new.eligible.items
    c.take_at-stage.ensures.eligible) in
    joined_marks c.take_at-stage.new.eligible.items c.args.holders.now.items
    c.take_at-stage.new.queues.marks mid c.take_at-stage.result c.put_in.new.stages.items
    c.hold_all.new.marks
    (rw c.take_at-stage.ensures.marks (λ key w.
    c.requires.marks.wanted key (tested (wants key) c.args.eligible.now.items c.take_at-stage.result
    (c.in-Some.at, first.within, sym c.take_at-stage.ensures.stage) w))) (rw c.as_slice.ensures at c.hold_all.ensures.marked) c.hold_all.ensures.kept
    c.put_in.ensures.is
