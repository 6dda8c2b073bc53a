use Rattle.std.proofs.Common.{◌≡◌, ◌++◌, take}
use Rattle.pl_expr.specs.Trees.{dotted}
use Rattle.pl_expr.proofs.printing.push_names.Given as goal

abbrev pub invariant-loop-name : goal.invariant-loop-name
invariant-loop-name l = l.text ≡ l.fn.text ++ dotted (take l.name-index l.name-items)
