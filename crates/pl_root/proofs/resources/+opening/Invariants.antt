use Rattle.std.proofs.Common.{◌≡◌, drop, map}
use Rattle.pl_root.specs.Resources.{first_of, opening, pair_opening}
use Rattle.pl_root.proofs.resources.+opening.Given as goal

abbrev pub invariant-opening_in_items-loop-item : goal.invariant-opening_in_items-loop-item
invariant-opening_in_items-loop-item l =
    first_of (map opening l.items) ≡ first_of (map opening (drop l.item-index l.item-items))

abbrev pub invariant-opening_in_pairs-loop-pair : goal.invariant-opening_in_pairs-loop-pair
invariant-opening_in_pairs-loop-pair l =
    first_of (map pair_opening l.pairs)
    ≡ first_of (map pair_opening (drop l.pair-index l.pair-items))
