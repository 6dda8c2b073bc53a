use Rattle.pl_locks.proofs.Keeping.{kept_leave}
use Rattle.pl_contenders.proofs.contenders.Contenders.leave.Goals as goal

pub invariant_of-self : goal.invariant_of-self
invariant_of-self c =
    rw (c.leave.ensures.eligible, c.leave.ensures.holders) (kept_leave c.args.run c.args.position
    c.self.inside.queues.eligible c.self.inside.queues.holders c.self.invariant)
