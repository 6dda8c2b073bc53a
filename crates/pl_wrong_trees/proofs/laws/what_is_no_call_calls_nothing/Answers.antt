use Rattle.pl_wrong_trees.proofs.Borders.{by_calls}
use Rattle.pl_wrong_trees.proofs.laws.what_is_no_call_calls_nothing.Goals as goal

pub returns : goal.returns
returns c = by_calls
