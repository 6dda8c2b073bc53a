use Rattle.std.proofs.Common.{◌≡◌, drop, take}
use Rattle.pl_torn.specs.Torn as spec
use Rattle.pl_torn.proofs.judging.torn.Given as goal

abbrev pub invariant-loop-at : goal.invariant-loop-at
invariant-loop-at l =
    spec.torn_from l.admin l.all (take l.at l.all) (drop l.at l.all) ≡
    spec.torn l.admin l.all
