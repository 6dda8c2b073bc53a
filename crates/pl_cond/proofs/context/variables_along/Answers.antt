use Rattle.std.proofs.Common.{[], ap, sym, ◌∙◌}
use Rattle.pl_eval.specs.Means.{answer}
use Rattle.pl_cond.specs.declared.variables.Variable.{Variable}
use Rattle.pl_cond.specs.Objects.{variables_value}
use Rattle.pl_cond.specs.Paths.{inside}
use Rattle.pl_cond.proofs.Inside.{nowhere, only_is, through}
use Rattle.pl_cond.proofs.context.variables_along.Goals as goal

pub returns-in_ok-copy-in-Some : goal.returns-in_ok-copy-in-Some
returns-in_ok-copy-in-Some c =
    let here = c.args.here.now in
    let variables = c.args.variables.now in
    ap (inside here (variables_value here variables))
    (only_is c.args.names.now c.name-item.result c.in-len1.len_at_least c.in-len1.len_below
    c.name-item.is)
    ∙ through here (λ (one : Variable). one.name) (λ (one : Variable). one.value)
    variables c.name-item.result [] c.in-Some.variable.now c.in_ok-copy-in-Some.field-0
    c.in-Some.ensures (ap (answer here) (sym c.in_ok-copy-in-Some.ensures))

pub returns-in-None : goal.returns-in-None
returns-in-None c =
    let here = c.args.here.now in
    let variables = c.args.variables.now in
    ap (inside here (variables_value here variables))
    (only_is c.args.names.now c.name-item.result c.in-len1.len_at_least c.in-len1.len_below
    c.name-item.is)
    ∙ nowhere here (λ (one : Variable). one.name) (λ (one : Variable). one.value)
    variables c.name-item.result [] c.in-None.ensures
