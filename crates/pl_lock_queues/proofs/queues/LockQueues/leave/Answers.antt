use Rattle.std.proofs.Common.{ap, arith, ◌∙◌}
use Rattle.pl_locks.proofs.Keeping.{both}
use Rattle.pl_locks.proofs.Moved.{without_absent}
use Rattle.pl_lock_queues.proofs.queues.LockQueues.leave.Goals as goal

pub leave-requires-clause-ordered : goal.leave-requires-clause-ordered
leave-requires-clause-ordered c = c.self.invariant.0.0

pub leave-requires-clause-waiting : goal.leave-requires-clause-waiting
leave-requires-clause-waiting c = c.self.invariant.1.0

pub leave-requires-clause-names : goal.leave-requires-clause-names
leave-requires-clause-names c = c.self.invariant.1.1

pub invariant_of-self : goal.invariant_of-self
invariant_of-self c = (
  (c.leave.ensures.ordered, c.self.invariant.0.1, omega (arith, c.leave.ensures.len)),
  (
    c.leave.ensures.waiting,
    c.leave.ensures.names,
    c.leave.ensures.marks c.self.inside.holders.items c.self.invariant.1.2,
  ),
)

pub returns-clause-eligible : goal.returns-clause-eligible
returns-clause-eligible c = rw (← c.self.view_is) c.leave.ensures.eligible

pub returns-clause-absent : goal.returns-clause-absent
returns-clause-absent c = rw (← c.self.view_is) (λ absent.
    ap (λ stages. both stages c.self.inside.holders.items) (c.leave.ensures.eligible
    ∙ without_absent c.args.run c.args.position c.self.inside.eligible.items absent))
