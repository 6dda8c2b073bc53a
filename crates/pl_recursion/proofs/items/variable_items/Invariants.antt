use Rattle.std.proofs.Common.{◌≡◌, map}
use Rattle.pl_recursion.specs.Levels.{variable_item}
use Rattle.pl_recursion.proofs.items.variable_items.Given as goal

abbrev pub invariant-loop-pair : goal.invariant-loop-pair
invariant-loop-pair l = l.items ≡ map variable_item l.yielded
