use Rattle.std.proofs.Common.{◌≡◌, drop}
use Rattle.pl_eval.specs.LookUps.{member_behind}
use Rattle.pl_eval.proofs.projecting.take_member_behind.Given as goal

abbrev pub invariant-loop-name : goal.invariant-loop-name
invariant-loop-name l = member_behind l.name-items l.fn.node ≡
    member_behind (drop l.name-index l.name-items) l.node
