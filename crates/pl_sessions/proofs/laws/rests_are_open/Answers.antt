use Rattle.pl_wire.proofs.Readings.{partial_none, bad_none}
use Rattle.pl_sessions.proofs.laws.rests_are_open.Goals as goal

pub returns : goal.returns
returns c = (partial_none, bad_none)
