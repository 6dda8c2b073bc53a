use Rattle.pl_compile.proofs.Named.{places_named}
use Rattle.pl_compile.proofs.laws.places_name_their_file.Goals as goal

pub returns : goal.returns
returns c = places_named
