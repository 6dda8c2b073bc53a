use Rattle.pl_wire.proofs.Readings.{stay}
use Rattle.pl_wire.proofs.next.messages_stay.Goals as goal

pub returns : goal.returns
returns c = stay
