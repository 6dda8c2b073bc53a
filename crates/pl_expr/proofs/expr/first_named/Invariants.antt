use Rattle.std.proofs.Common.{◌≡◌, drop}
use Rattle.std.specs.List.{find}
use Rattle.pl_expr.specs.Functions.{names}
use Rattle.pl_expr.proofs.expr.first_named.Given as goal

abbrev pub invariant-loop-function : goal.invariant-loop-function
invariant-loop-function l = find (names l.mode l.word) l.functions ≡
    find (names l.mode l.word) (drop l.function-index l.functions)
