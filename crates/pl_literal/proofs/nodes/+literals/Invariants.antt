use Rattle.std.proofs.Common.{◌≡◌, map, take}
use Rattle.pl_literal.specs.Literal.{literal, literal_pair}
use Rattle.pl_literal.proofs.nodes.+literals.Given as goal

abbrev pub invariant-items_of-loop-item : goal.invariant-items_of-loop-item
invariant-items_of-loop-item l = l.values ≡
    map (literal l.crossings) (take l.item-index l.item-items)

abbrev pub invariant-pairs_of-loop-pair : goal.invariant-pairs_of-loop-pair
invariant-pairs_of-loop-pair l = l.values ≡ map (literal_pair l.crossings)
    (take l.pair-index l.pair-items)
