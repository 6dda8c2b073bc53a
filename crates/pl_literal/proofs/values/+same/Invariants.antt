use Rattle.std.proofs.Common.{◌≡◌, map, drop}
use Rattle.pl_literal.specs.Values.{nodes_alike, pairs_alike, all_pass}
use Rattle.pl_literal.proofs.values.+same.Given as goal

abbrev pub invariant-items_alike-loop-index : goal.invariant-items_alike-loop-index
invariant-items_alike-loop-index l = all_pass (map nodes_alike l.left) l.right ≡
    all_pass (map nodes_alike (drop l.index l.left)) (drop l.index l.right)

abbrev pub invariant-properties_alike-loop-index : goal.invariant-properties_alike-loop-index
invariant-properties_alike-loop-index l = all_pass (map pairs_alike l.left) l.right ≡
    all_pass (map pairs_alike (drop l.index l.left)) (drop l.index l.right)
