use Rattle.pl_locks.proofs.Keeping.{kept_enter}
use Rattle.pl_contenders.proofs.contenders.Contenders.enter.Goals as goal

pub enter-requires : goal.enter-requires
enter-requires c = rw (← c.self.view_is) at c.requires.eligible

pub invariant_of-self-2 : goal.invariant_of-self-2
invariant_of-self-2 c =
    let was = c.self.inside.queues in
    rw c.in_ok-enter.ensures.holders (kept_enter was.eligible was.holders
    c.enter.new.self.eligible c.args.stage c.self.invariant
    (rw (← c.self.view_is) at c.requires.holders) c.in_ok-enter.ensures.eligible)
