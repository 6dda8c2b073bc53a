use Rattle.std.proofs.Common.{sym}
use Rattle.pl_locks.proofs.Moved.{without_absent}
use Rattle.pl_lock_queues.specs.Queues.{wants}
use Rattle.pl_lock_queues.proofs.Marked.{found_at, found_out, released_marks, taken_out}
use Rattle.pl_lock_queues.proofs.Moving.{tested}
use Rattle.pl_lock_queues.proofs.entering.release.Goals as goal

pub mark_anew-requires : goal.mark_anew-requires
mark_anew-requires c = λ key w.
    let first = rw c.deref.ensures.value at c.in-Some.ensures in
    let out = taken_out c.args.holders.now.items c.remove-stage.new.self.items c.in-Some.at
    c.remove-stage.result c.requires.ordered first.within c.remove-stage.ensures.value
    c.remove-stage.ensures.items in
    c.requires.owned key (tested (wants key) c.args.holders.now.items c.remove-stage.result out.2
    (rw c.as_slice.ensures at w))

pub returns-in-Some-clause-holders : goal.returns-in-Some-clause-holders
returns-in-Some-clause-holders c =
    let first = rw c.deref.ensures.value at c.in-Some.ensures in
    let out = taken_out c.args.holders.now.items c.remove-stage.new.self.items c.in-Some.at
    c.remove-stage.result c.requires.ordered first.within c.remove-stage.ensures.value
    c.remove-stage.ensures.items in
    found_out c.args.holders.now.items c.remove-stage.new.self.items c.args.run c.args.position
    c.remove-stage.result (found_at c.args.holders.now.items c.args.run c.args.position c.in-Some.at
    c.remove-stage.result first c.remove-stage.ensures.value) out.0

pub returns-in-Some-clause-marks : goal.returns-in-Some-clause-marks
returns-in-Some-clause-marks c = λ eligible are.
    let first = rw c.deref.ensures.value at c.in-Some.ensures in
    let out = taken_out c.args.holders.now.items c.remove-stage.new.self.items c.in-Some.at
    c.remove-stage.result c.requires.ordered first.within c.remove-stage.ensures.value
    c.remove-stage.ensures.items in
    released_marks eligible c.args.holders.now.items c.args.marks.now are c.remove-stage.result
    c.in-Some.at c.remove-stage.new.self.items c.mark_anew.new.marks first.within
    c.remove-stage.ensures.value c.remove-stage.ensures.items out.0
    (rw (c.deref-in-Some.ensures.value, c.as_slice.ensures) at c.mark_anew.ensures.marked) c.mark_anew.ensures.kept

pub returns-in_default-clause-holders : goal.returns-in_default-clause-holders
returns-in_default-clause-holders c =
    sym (without_absent c.args.run c.args.position c.args.holders.now.items
    (rw c.deref.ensures.value at c.in_default.ensures))

pub returns-in-Some-clause-ordered : goal.returns-in-Some-clause-ordered
returns-in-Some-clause-ordered c =
    let first = rw c.deref.ensures.value at c.in-Some.ensures in
    (taken_out c.args.holders.now.items c.remove-stage.new.self.items c.in-Some.at
    c.remove-stage.result c.requires.ordered first.within c.remove-stage.ensures.value
    c.remove-stage.ensures.items).1
