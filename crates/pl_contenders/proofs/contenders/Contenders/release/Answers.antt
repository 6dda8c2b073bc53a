use Rattle.pl_locks.proofs.Keeping.{kept_release}
use Rattle.pl_contenders.proofs.contenders.Contenders.release.Goals as goal

pub invariant_of-self : goal.invariant_of-self
invariant_of-self c =
    rw (c.release.ensures.eligible, c.release.ensures.holders) (kept_release c.args.run
    c.args.position c.self.inside.queues.eligible c.self.inside.queues.holders c.self.invariant)
