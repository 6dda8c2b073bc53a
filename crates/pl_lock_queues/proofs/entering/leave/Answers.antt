use Rattle.std.proofs.Common.{sym}
use Rattle.pl_locks.proofs.Moved.{without_absent}
use Rattle.pl_lock_queues.proofs.Marked.{found_at, found_out, left_marks}
use Rattle.pl_lock_queues.proofs.entering.leave.Goals as goal

pub take_at-requires-clause-within : goal.take_at-requires-clause-within
take_at-requires-clause-within c = (rw c.deref.ensures.value at c.in-Some.ensures).within

pub returns-in-Some-clause-eligible : goal.returns-in-Some-clause-eligible
returns-in-Some-clause-eligible c =
    found_out c.args.eligible.now.items c.take_at.new.eligible.items c.args.run c.args.position
    c.take_at.result (found_at c.args.eligible.now.items c.args.run c.args.position c.in-Some.at
    c.take_at.result (rw c.deref.ensures.value at c.in-Some.ensures) c.take_at.ensures.stage)
    c.take_at.ensures.eligible

pub returns-in-Some-clause-marks : goal.returns-in-Some-clause-marks
returns-in-Some-clause-marks c = rw c.take_at.ensures.marks (λ holders are.
    left_marks c.args.eligible.now.items holders c.args.queues.now.marks are c.take_at.result.run
    c.take_at.result.position c.take_at.new.eligible.items c.take_at.ensures.eligible)

pub returns-in_default-clause-eligible : goal.returns-in_default-clause-eligible
returns-in_default-clause-eligible c =
    sym (without_absent c.args.run c.args.position c.args.eligible.now.items
    (rw c.deref.ensures.value at c.in_default.ensures))
