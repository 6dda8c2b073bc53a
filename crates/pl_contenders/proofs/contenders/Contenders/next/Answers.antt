use Rattle.pl_contenders.proofs.contenders.Contenders.next.Goals as goal

pub returns-clause-next : goal.returns-clause-next
returns-clause-next c = rw (← c.self.view_is) c.next.ensures.next

pub returns-clause-some : goal.returns-clause-some
returns-clause-some c = rw (← c.self.view_is) c.next.ensures.some

pub returns-clause-progress : goal.returns-clause-progress
returns-clause-progress c = rw (← c.self.view_is) c.next.ensures.progress
