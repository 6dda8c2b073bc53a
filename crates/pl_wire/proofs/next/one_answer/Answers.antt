use Rattle.pl_wire.proofs.Readings.{one_answer}
use Rattle.pl_wire.proofs.next.one_answer.Goals as goal

pub returns : goal.returns
returns c = one_answer
