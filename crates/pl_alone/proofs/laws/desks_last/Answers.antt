use Rattle.pl_alone.proofs.Lasting.{lasts}
use Rattle.pl_alone.proofs.laws.desks_last.Goals as goal

pub returns : goal.returns
returns c = lasts
