use Rattle.pl_cond.proofs.Resolved.{path_found}
use Rattle.pl_cond.proofs.Roots.{if_ok}
use Rattle.pl_cond.proofs.resolving.path_value.Goals as goal

pub returns-in-Some : goal.returns-in-Some
returns-in-Some c =
    if_ok _ _ c.root_along.result (λ value found. path_found c.args.context.now
    c.args.variables.now c.args.expr.now c.in-Some.path _ _ value _ c.in_ok-path.ensures
    c.in-Some.is c.as_slice.ensures found) c.root_along.ensures
