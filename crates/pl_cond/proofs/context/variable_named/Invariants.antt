use Rattle.std.proofs.Common.{◌≡◌, drop, find}
use Rattle.pl_eval.specs.Known.{same_name}
use Rattle.pl_cond.proofs.context.variable_named.Given as goal

abbrev pub invariant-loop-variable : goal.invariant-loop-variable
invariant-loop-variable l = find (λ one. same_name l.name one.name) l.variables ≡
    find (λ one. same_name l.name one.name) (drop l.variable-index l.variables)
