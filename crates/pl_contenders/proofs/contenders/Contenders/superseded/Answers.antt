use Rattle.pl_contenders.proofs.contenders.Contenders.superseded.Goals as goal

pub returns : goal.returns
returns c = rw (← c.self.view_is) c.superseded.ensures
