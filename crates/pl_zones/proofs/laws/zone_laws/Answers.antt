use Rattle.pl_zones.proofs.Unique.{one_local}
use Rattle.pl_zones.proofs.laws.zone_laws.Goals as goal

pub returns : goal.returns
returns c = record { one = one_local }
