use Rattle.pl_provenance.proofs.Known.{known}
use Rattle.pl_provenance.proofs.laws.origins_tell_used_files.Goals as goal

pub returns : goal.returns
returns c = known
