use Rattle.pl_heads.proofs.FrontLemmas.{one}
use Rattle.pl_heads.proofs.laws.one_front.Goals as goal

pub returns : goal.returns
returns c = one
