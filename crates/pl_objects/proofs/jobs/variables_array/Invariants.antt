use Rattle.std.proofs.Common.{◌≡◌, map, take}
use Rattle.pl_objects.specs.Jobs.{variable_array}
use Rattle.pl_objects.proofs.jobs.variables_array.Given as goal

abbrev pub invariant-loop-variable : goal.invariant-loop-variable
invariant-loop-variable l = l.items ≡ map variable_array (take l.variable-index l.variable-items)
