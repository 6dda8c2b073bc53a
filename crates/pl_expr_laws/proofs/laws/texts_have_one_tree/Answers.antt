use Rattle.pl_expr_laws.proofs.Complete.{read_as_spelled, has_one_tree}
use Rattle.pl_expr_laws.proofs.laws.texts_have_one_tree.Goals as goal

pub returns : goal.returns
returns c = record { read = read_as_spelled; one = has_one_tree }
