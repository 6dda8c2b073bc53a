use Rattle.std.proofs.Common.{◌≡◌, find, drop}
use Rattle.pl_eval.specs.Known.{same_name}
use Rattle.pl_frame.proofs.members.variable_named.Given as goal

abbrev pub invariant-loop-variable : goal.invariant-loop-variable
invariant-loop-variable l =
    find (λ variable. same_name l.name variable.name) l.variable-items
    ≡ find (λ variable. same_name l.name variable.name) (drop l.variable-index l.variable-items)
