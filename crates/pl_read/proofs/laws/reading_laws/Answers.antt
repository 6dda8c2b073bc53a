use Rattle.pl_read.proofs.One.{all_one_way}
use Rattle.pl_read.proofs.laws.reading_laws.Goals as goal

pub returns : goal.returns
returns c = all_one_way
