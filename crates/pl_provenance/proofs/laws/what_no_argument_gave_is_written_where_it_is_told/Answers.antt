use Rattle.pl_provenance.proofs.Written.{written}
use Rattle.pl_provenance.proofs.laws.what_no_argument_gave_is_written_where_it_is_told.Goals as goal

pub returns : goal.returns
returns c = written
