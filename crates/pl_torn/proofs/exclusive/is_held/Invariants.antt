use Rattle.std.proofs.Common.{◌≡◌, drop}
use Rattle.std.specs.List.{list_any}
use Rattle.pl_torn.specs.Exclusive as spec
use Rattle.pl_torn.proofs.exclusive.is_held.Given as goal

abbrev pub invariant-loop-one : goal.invariant-loop-one
invariant-loop-one l =
    list_any (spec.runs_on l.all l.planned.uses) (drop l.one-index l.before) ≡
    list_any (spec.runs_on l.all l.planned.uses) l.before
