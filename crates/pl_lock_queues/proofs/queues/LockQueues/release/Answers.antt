use Rattle.std.proofs.Common.{ap, arith, ◌∙◌}
use Rattle.pl_locks.proofs.Keeping.{both}
use Rattle.pl_locks.proofs.Moved.{without_absent}
use Rattle.pl_lock_queues.proofs.queues.LockQueues.release.Goals as goal

pub release-requires-clause-ordered : goal.release-requires-clause-ordered
release-requires-clause-ordered c = c.self.invariant.0.1

pub release-requires-clause-owned : goal.release-requires-clause-owned
release-requires-clause-owned c = c.self.invariant.1.2.owned

pub invariant_of-self : goal.invariant_of-self
invariant_of-self c = (
  (c.self.invariant.0.0, c.release.ensures.ordered, omega (arith, c.release.ensures.len, c.release.ensures.capacity)),
  (
    c.self.invariant.1.0,
    c.self.invariant.1.1,
    c.release.ensures.marks c.self.inside.eligible.items c.self.invariant.1.2,
  ),
)

pub returns-clause-holders : goal.returns-clause-holders
returns-clause-holders c = rw (← c.self.view_is) c.release.ensures.holders

pub returns-clause-absent : goal.returns-clause-absent
returns-clause-absent c = rw (← c.self.view_is) (λ absent.
    ap (λ stages. both c.self.inside.eligible.items stages) (c.release.ensures.holders
    ∙ without_absent c.args.run c.args.position c.self.inside.holders.items absent))
