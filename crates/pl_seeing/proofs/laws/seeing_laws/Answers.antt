use Rattle.pl_seeing.proofs.InOrder.{in_order}
use Rattle.pl_seeing.proofs.laws.seeing_laws.Goals as goal

pub returns : goal.returns
returns c = record { order = in_order }
