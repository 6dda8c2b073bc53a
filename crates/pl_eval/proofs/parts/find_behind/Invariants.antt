use Rattle.std.proofs.Common.{◌≡◌, drop}
use Rattle.pl_eval.specs.LookUps.{found_behind}
use Rattle.pl_eval.proofs.parts.find_behind.Given as goal

abbrev pub invariant-loop-at : goal.invariant-loop-at
invariant-loop-at l = found_behind l.path l.fn.node ≡ found_behind (drop l.at-index l.path) l.node
