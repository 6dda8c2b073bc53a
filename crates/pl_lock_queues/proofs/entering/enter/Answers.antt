use Rattle.pl_lock_queues.proofs.Marked.{entered_marks, more_marks}
use Rattle.pl_lock_queues.proofs.entering.enter.Goals as goal

pub returns-in_err-reserve-clause-waiting : goal.returns-in_err-reserve-clause-waiting
returns-in_err-reserve-clause-waiting c = rw c.reserve.ensures.items c.requires.waiting

pub returns-in_err-reserve-clause-marks : goal.returns-in_err-reserve-clause-marks
returns-in_err-reserve-clause-marks c = rw c.reserve.ensures.items (λ holders are. are)

pub returns-in_err-make_marks-clause-waiting : goal.returns-in_err-make_marks-clause-waiting
returns-in_err-make_marks-clause-waiting c = rw c.reserve.ensures.items c.requires.waiting

pub returns-in_err-make_marks-clause-marks : goal.returns-in_err-make_marks-clause-marks
returns-in_err-make_marks-clause-marks c = rw c.reserve.ensures.items (λ holders are.
    more_marks c.args.eligible.now.items holders c.args.queues.now.marks are c.make_marks.new.marks
    c.make_marks.ensures.same c.make_marks.ensures.kept)

pub admit_named-requires-clause-ordered : goal.admit_named-requires-clause-ordered
admit_named-requires-clause-ordered c =
    rw (c.deref.ensures.value, c.reserve.ensures.items) c.requires.ordered

pub admit_named-requires-clause-absent : goal.admit_named-requires-clause-absent
admit_named-requires-clause-absent c =
    rw (c.deref.ensures.value, c.reserve.ensures.items) c.requires.absent

pub admit_named-requires-clause-waiting : goal.admit_named-requires-clause-waiting
admit_named-requires-clause-waiting c =
    rw (c.deref.ensures.value, c.reserve.ensures.items) c.requires.waiting

pub admit_named-requires-clause-names : goal.admit_named-requires-clause-names
admit_named-requires-clause-names c =
    rw (c.deref.ensures.value, c.reserve.ensures.items) c.requires.names

pub returns-in_err-reserve-clause-names : goal.returns-in_err-reserve-clause-names
returns-in_err-reserve-clause-names c = rw c.reserve.ensures.items c.requires.names

pub returns-in_err-make_marks-clause-names : goal.returns-in_err-make_marks-clause-names
returns-in_err-make_marks-clause-names c = rw c.reserve.ensures.items c.requires.names

pub returns-in_err-admit_named-clause-waiting : goal.returns-in_err-admit_named-clause-waiting
returns-in_err-admit_named-clause-waiting c =
    rw c.deref.ensures.value at c.in_err-admit_named.ensures.waiting_err

pub returns-in_err-admit_named-clause-names : goal.returns-in_err-admit_named-clause-names
returns-in_err-admit_named-clause-names c =
    rw c.deref.ensures.value at c.in_err-admit_named.ensures.names_err

pub returns-in_err-admit_named-clause-marks : goal.returns-in_err-admit_named-clause-marks
returns-in_err-admit_named-clause-marks c = rw (c.reserve.ensures.items, c.admit_named.ensures.marks)
    (λ holders are. more_marks c.args.eligible.now.items holders c.args.queues.now.marks are
    c.make_marks.new.marks c.make_marks.ensures.same c.make_marks.ensures.kept)

pub put_in-requires-clause-ordered : goal.put_in-requires-clause-ordered
put_in-requires-clause-ordered c = rw c.reserve.ensures.items c.requires.ordered

pub put_in-requires-clause-absent : goal.put_in-requires-clause-absent
put_in-requires-clause-absent c = rw c.reserve.ensures.items c.requires.absent

pub returns-clause-ok : goal.returns-clause-ok
returns-clause-ok c = rw c.reserve.ensures.items at c.put_in.ensures.is

pub returns-clause-waiting : goal.returns-clause-waiting
returns-clause-waiting c = c.in_ok-admit_named.ensures.waiting c.put_in.new.stages.items
    (rw c.deref.ensures.value c.put_in.ensures.is)

pub returns-clause-names : goal.returns-clause-names
returns-clause-names c = c.in_ok-admit_named.ensures.names c.put_in.new.stages.items
    (rw c.deref.ensures.value c.put_in.ensures.is)

pub returns-clause-marks : goal.returns-clause-marks
returns-clause-marks c = rw c.admit_named.ensures.marks (λ holders are.
    entered_marks c.args.eligible.now.items holders c.make_marks.new.marks
    (more_marks c.args.eligible.now.items holders c.args.queues.now.marks are c.make_marks.new.marks
    c.make_marks.ensures.same c.make_marks.ensures.kept)
    c.args.stage c.put_in.new.stages.items (rw c.as_slice.ensures at c.in_ok-make_marks.ensures.ok)
    (rw c.reserve.ensures.items at c.put_in.ensures.is))

pub returns-in_err-reserve-clause-ordered : goal.returns-in_err-reserve-clause-ordered
returns-in_err-reserve-clause-ordered c = rw c.reserve.ensures.items c.requires.ordered

pub returns-in_err-make_marks-clause-ordered : goal.returns-in_err-make_marks-clause-ordered
returns-in_err-make_marks-clause-ordered c = rw c.reserve.ensures.items c.requires.ordered

pub returns-in_err-admit_named-clause-ordered : goal.returns-in_err-admit_named-clause-ordered
returns-in_err-admit_named-clause-ordered c = rw c.reserve.ensures.items c.requires.ordered

pub returns-clause-ordered : goal.returns-clause-ordered
returns-clause-ordered c = c.put_in.ensures.is.ordered
