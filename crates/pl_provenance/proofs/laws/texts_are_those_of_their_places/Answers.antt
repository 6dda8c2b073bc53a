use Rattle.pl_provenance.proofs.Known.{texts}
use Rattle.pl_provenance.proofs.laws.texts_are_those_of_their_places.Goals as goal

pub returns : goal.returns
returns c = texts
