use Rattle.pl_locks.proofs.contenders.Contenders.superseded.Goals as goal

pub returns : goal.returns
returns c = rw (← c.self.view_is, ← c.deref.ensures.value) c.least_superseded.ensures
