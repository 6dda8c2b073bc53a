use Rattle.pl_heads.proofs.FrontLemmas.{stay}
use Rattle.pl_heads.proofs.laws.fronts_stay.Goals as goal

pub returns : goal.returns
returns c = stay
