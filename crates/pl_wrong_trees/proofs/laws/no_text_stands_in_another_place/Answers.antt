use Rattle.pl_wrong_trees.proofs.Sayings.{as_written}
use Rattle.pl_wrong_trees.proofs.laws.no_text_stands_in_another_place.Goals as goal

pub returns : goal.returns
returns c = as_written
