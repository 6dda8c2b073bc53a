use Rattle.std.proofs.lemmas.Bool.Decides.{Decides-at}
use Rattle.pl_literal.specs.Values.{alike}
use Rattle.pl_literal.proofs.Alike.{alike_decides}
use Rattle.pl_literal.proofs.values.same_value.Goals as goal

pub returns-clause-same : goal.returns-clause-same
returns-clause-same c =
    let left = c.args.left.now in
    let right = c.args.right.now in
    Decides-at c.values_alike.result (alike left right) c.values_alike.ensures
    (alike_decides left right)
