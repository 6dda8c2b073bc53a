use Rattle.pl_lock_queues.proofs.Marked.{joined_marks, more_marks}
use Rattle.pl_lock_queues.proofs.entering.join.Goals as goal

pub returns-in_err-reserve-clause-marks : goal.returns-in_err-reserve-clause-marks
returns-in_err-reserve-clause-marks c = rw c.reserve.ensures.items (λ eligible are. are)

pub returns-in_err-make_marks-clause-marks : goal.returns-in_err-make_marks-clause-marks
returns-in_err-make_marks-clause-marks c = rw c.reserve.ensures.items (λ eligible are.
    more_marks eligible c.args.holders.now.items c.args.marks.now are c.make_marks.new.marks
    c.make_marks.ensures.same c.make_marks.ensures.kept)

pub put_in-requires-clause-ordered : goal.put_in-requires-clause-ordered
put_in-requires-clause-ordered c = rw c.reserve.ensures.items c.requires.ordered

pub put_in-requires-clause-absent : goal.put_in-requires-clause-absent
put_in-requires-clause-absent c = rw c.reserve.ensures.items c.requires.absent

pub returns-clause-ok : goal.returns-clause-ok
returns-clause-ok c = rw c.reserve.ensures.items at c.put_in.ensures.is

pub returns-clause-marks : goal.returns-clause-marks
returns-clause-marks c = λ eligible are.
    joined_marks eligible c.args.holders.now.items c.make_marks.new.marks
    (more_marks eligible c.args.holders.now.items c.args.marks.now are c.make_marks.new.marks
    c.make_marks.ensures.same c.make_marks.ensures.kept)
    c.args.stage c.put_in.new.stages.items c.hold_all.new.marks
    (rw c.as_slice.ensures at c.in_ok-make_marks.ensures.ok)
    (rw c.as_slice-2.ensures at c.hold_all.ensures.marked) c.hold_all.ensures.kept
    (rw c.reserve.ensures.items at c.put_in.ensures.is)

pub returns-in_err-reserve-clause-ordered : goal.returns-in_err-reserve-clause-ordered
returns-in_err-reserve-clause-ordered c = rw c.reserve.ensures.items c.requires.ordered

pub returns-in_err-make_marks-clause-ordered : goal.returns-in_err-make_marks-clause-ordered
returns-in_err-make_marks-clause-ordered c = rw c.reserve.ensures.items c.requires.ordered

pub returns-clause-ordered : goal.returns-clause-ordered
returns-clause-ordered c = c.put_in.ensures.is.ordered
