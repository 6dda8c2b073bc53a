use Rattle.pl_bundle.proofs.Writing as writing
use Rattle.pl_bundle.proofs.laws.written_is_read.Goals as goal

pub returns : goal.returns
returns c = writing.written_is_read
