use Rattle.pl_wire.proofs.Readings.{one_reading}
use Rattle.pl_wire.proofs.next.one_reading.Goals as goal

pub returns : goal.returns
returns c = one_reading
