use Rattle.pl_service.proofs.Growing.{grows}
use Rattle.pl_service.proofs.laws.desks_grow.Goals as goal

pub returns : goal.returns
returns c = grows
