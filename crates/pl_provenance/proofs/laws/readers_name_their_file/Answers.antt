use Rattle.pl_provenance.proofs.Reader.{named}
use Rattle.pl_provenance.proofs.laws.readers_name_their_file.Goals as goal

pub returns : goal.returns
returns c = named
