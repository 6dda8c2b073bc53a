use Rattle.pl_sessions.proofs.Streams.{one_stream}
use Rattle.pl_sessions.proofs.laws.one_stream.Goals as goal

pub returns : goal.returns
returns c = one_stream c.one_reading.ensures
