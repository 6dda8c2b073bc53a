use Rattle.std.proofs.Common.{ap}
use Rattle.pl_eval.specs.Means.{means}
use Rattle.pl_cond.specs.Contexts.{known_in}
use Rattle.pl_cond.proofs.Roots.{if_ok}
use Rattle.pl_cond.proofs.conditions.variables_for.Goals as goal

pub returns-then-has_variables : goal.returns-then-has_variables
returns-then-has_variables c =
    if_ok _ _ c.all_variables.result (λ some is.
    ap (λ vs. means (known_in c.args.context.now vs) c.args.context.now.here c.args.condition.now)
    is) c.all_variables.ensures
