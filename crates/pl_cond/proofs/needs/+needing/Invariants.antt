use Rattle.std.proofs.Common.{take}
use Rattle.pl_cond.specs.Contexts.{AllNeedNone}
use Rattle.pl_cond.proofs.needs.+needing.Given as goal

abbrev pub invariant-any_has_variables-loop-argument :
    goal.invariant-any_has_variables-loop-argument
invariant-any_has_variables-loop-argument l =
    AllNeedNone (take l.argument-index l.argument-items)
