use Rattle.std.proofs.Common.{◌≡◌, map, take}
use Rattle.pl_cond.specs.Objects.{variable_pair}
use Rattle.pl_cond.proofs.objects.variables_value.Given as goal

abbrev pub invariant-loop-variable : goal.invariant-loop-variable
invariant-loop-variable l = l.pairs ≡ map (variable_pair l.here) (take l.variable-index l.variables)
