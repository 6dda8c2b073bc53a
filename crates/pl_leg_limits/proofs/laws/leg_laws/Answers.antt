use Rattle.pl_leg_limits.proofs.Alike.{legs_alike}
use Rattle.pl_leg_limits.proofs.laws.leg_laws.Goals as goal

pub returns : goal.returns
returns c = record { alike = legs_alike }
