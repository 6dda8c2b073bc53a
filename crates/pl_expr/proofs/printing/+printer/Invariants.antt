use Rattle.std.proofs.Common.{◌≡◌, ◌++◌, map, take}
use Rattle.pl_expr.specs.Trees.{listed, printed}
use Rattle.pl_expr.proofs.printing.+printer.Given as goal

abbrev pub invariant-push_arguments-loop-index : goal.invariant-push_arguments-loop-index
invariant-push_arguments-loop-index l = l.text ≡ l.fn.text ++
    listed (map printed (take l.index l.argument-items))
