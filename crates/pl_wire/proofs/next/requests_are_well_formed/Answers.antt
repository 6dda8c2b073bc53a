use Rattle.pl_wire.proofs.Kept.{well_formed}
use Rattle.pl_wire.proofs.next.requests_are_well_formed.Goals as goal

pub returns : goal.returns
returns c = well_formed
