use Rattle.std.proofs.Common.{ap, arith}
use Rattle.pl_locks.proofs.Keeping.{both}
use Rattle.pl_lock_queues.proofs.Bools.{on_err}
use Rattle.pl_lock_queues.proofs.queues.LockQueues.enter.Goals as goal

pub enter-requires-clause-ordered : goal.enter-requires-clause-ordered
enter-requires-clause-ordered c = c.self.invariant.0.0

pub enter-requires-clause-absent : goal.enter-requires-clause-absent
enter-requires-clause-absent c = rw (← c.self.view_is) at c.requires

pub enter-requires-clause-waiting : goal.enter-requires-clause-waiting
enter-requires-clause-waiting c = c.self.invariant.1.0

pub enter-requires-clause-names : goal.enter-requires-clause-names
enter-requires-clause-names c = c.self.invariant.1.1

pub invariant_of-self : goal.invariant_of-self
invariant_of-self c = (
  (c.self.invariant.0.0, rw c.reserve.ensures.items c.self.invariant.0.1, omega arith),
  (c.self.invariant.1.0, c.self.invariant.1.1, rw c.reserve.ensures.items c.self.invariant.1.2),
)

pub invariant_of-self-2 : goal.invariant_of-self-2
invariant_of-self-2 c = (
  (
    c.enter.ensures.ordered,
    rw c.reserve.ensures.items c.self.invariant.0.1,
    omega (arith, c.in_ok-enter.ensures.len, c.in_ok-reserve.ensures.ok),
  ),
  (
    c.enter.ensures.waiting,
    c.enter.ensures.names,
    rw c.reserve.ensures.items
        (c.enter.ensures.marks c.self.inside.holders.items c.self.invariant.1.2),
  ),
)

pub returns-clause-eligible : goal.returns-clause-eligible
returns-clause-eligible c = rw (← c.self.view_is) c.in_ok-enter.ensures.ok

pub returns-in_err-enter-clause-err : goal.returns-in_err-enter-clause-err
returns-in_err-enter-clause-err c = rw (← c.self.view_is, c.reserve.ensures.items)
    (on_err c.from_residual-in_err-enter.result _
    (ap (λ stages. both stages c.self.inside.holders.items) c.in_err-enter.ensures.err))

pub returns-in_err-reserve-clause-err : goal.returns-in_err-reserve-clause-err
returns-in_err-reserve-clause-err c = rw (← c.self.view_is) (on_err c.from_residual.result _
    (ap (λ stages. both c.self.inside.eligible.items stages) c.reserve.ensures.items))

pub returns-clause-holders : goal.returns-clause-holders
returns-clause-holders c = rw (← c.self.view_is) c.reserve.ensures.items
