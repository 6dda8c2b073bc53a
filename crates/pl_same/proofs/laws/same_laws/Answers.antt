use Rattle.pl_same.proofs.Same.{keep_the_same}
use Rattle.pl_same.proofs.laws.same_laws.Goals as goal

pub returns : goal.returns
returns c = keep_the_same c.record_laws.ensures.one
