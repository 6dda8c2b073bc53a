use Rattle.pl_lock_queues.proofs.queues.LockQueues.hold.Goals as goal

pub hold-requires-clause-ordered : goal.hold-requires-clause-ordered
hold-requires-clause-ordered c = c.self.invariant.0.0

pub hold-requires-clause-holders_ordered : goal.hold-requires-clause-holders_ordered
hold-requires-clause-holders_ordered c = c.self.invariant.0.1

pub hold-requires-clause-present : goal.hold-requires-clause-present
hold-requires-clause-present c = rw (← c.self.view_is) at c.requires.eligible

pub hold-requires-clause-absent : goal.hold-requires-clause-absent
hold-requires-clause-absent c = rw (← c.self.view_is) at c.requires.holders

pub hold-requires-clause-room : goal.hold-requires-clause-room
hold-requires-clause-room c = c.self.invariant.0.2

pub hold-requires-clause-waiting : goal.hold-requires-clause-waiting
hold-requires-clause-waiting c = c.self.invariant.1.0

pub hold-requires-clause-names : goal.hold-requires-clause-names
hold-requires-clause-names c = c.self.invariant.1.1

pub hold-requires-clause-marks : goal.hold-requires-clause-marks
hold-requires-clause-marks c = c.self.invariant.1.2

pub invariant_of-self : goal.invariant_of-self
invariant_of-self c =
    let it = c.hold.ensures in
    ((it.ordered, it.holders_ordered, it.room), (it.waiting, it.names, it.marks))

pub returns-clause-eligible : goal.returns-clause-eligible
returns-clause-eligible c = rw (← c.self.view_is) c.hold.ensures.eligible

pub returns-clause-holders : goal.returns-clause-holders
returns-clause-holders c = rw (← c.self.view_is) c.hold.ensures.holders
