use Rattle.pl_replaying.proofs.Whole.{whole_input}
use Rattle.pl_replaying.proofs.laws.whole_input_finishes.Goals as goal

pub returns : goal.returns
returns c = whole_input c.one_reading.ensures
