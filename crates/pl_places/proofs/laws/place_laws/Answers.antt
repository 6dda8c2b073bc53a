use Rattle.pl_places.proofs.OnePlace.{fits_there, one_place, stands_there}
use Rattle.pl_places.proofs.laws.place_laws.Goals as goal

pub returns : goal.returns
returns c = record { one = one_place; stands = stands_there; fits = fits_there }
