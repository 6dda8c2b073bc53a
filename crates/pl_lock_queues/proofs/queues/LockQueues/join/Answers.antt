use Rattle.std.proofs.Common.{ap, arith}
use Rattle.pl_locks.proofs.Keeping.{both}
use Rattle.pl_lock_queues.proofs.Bools.{on_err}
use Rattle.pl_lock_queues.proofs.queues.LockQueues.join.Goals as goal

pub join-requires-clause-ordered : goal.join-requires-clause-ordered
join-requires-clause-ordered c = c.self.invariant.0.1

pub join-requires-clause-absent : goal.join-requires-clause-absent
join-requires-clause-absent c = rw (← c.self.view_is) at c.requires

pub invariant_of-self : goal.invariant_of-self
invariant_of-self c = (
  (
    c.self.invariant.0.0,
    c.join.ensures.ordered,
    omega (arith, c.in_err-join.ensures.len_err, c.join.ensures.capacity),
  ),
  (
    c.self.invariant.1.0,
    c.self.invariant.1.1,
    c.join.ensures.marks c.self.inside.eligible.items c.self.invariant.1.2,
  ),
)

pub invariant_of-self-2 : goal.invariant_of-self-2
invariant_of-self-2 c = (
  (
    c.self.invariant.0.0,
    c.join.ensures.ordered,
    omega (arith, c.in_ok-join.ensures.room, c.len-room.ensures),
  ),
  (
    c.self.invariant.1.0,
    c.self.invariant.1.1,
    c.join.ensures.marks c.self.inside.eligible.items c.self.invariant.1.2,
  ),
)

pub returns-clause-holders : goal.returns-clause-holders
returns-clause-holders c = rw (← c.self.view_is) c.in_ok-join.ensures.ok

pub returns-in_err-join-clause-err : goal.returns-in_err-join-clause-err
returns-in_err-join-clause-err c = rw (← c.self.view_is) (on_err c.from_residual.result _
    (ap (λ stages. both c.self.inside.eligible.items stages) c.in_err-join.ensures.err))
