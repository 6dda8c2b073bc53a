use Rattle.std.proofs.Common.{◌≡◌, map, drop, sum}
use Rattle.pl_frame.specs.Counting.{left_of}
use Rattle.pl_root.specs.Counting.{nodes_in, nodes_in_pair}
use Rattle.pl_root.proofs.counting.+spending.Given as goal

abbrev pub invariant-spend_items-loop-item : goal.invariant-spend_items-loop-item
invariant-spend_items-loop-item l =
    left_of l.initial.left (sum (map nodes_in l.item-items))
    ≡ left_of l.left (sum (map nodes_in (drop l.item-index l.item-items)))

abbrev pub invariant-spend_pairs-loop-pair : goal.invariant-spend_pairs-loop-pair
invariant-spend_pairs-loop-pair l =
    left_of l.initial.left (sum (map nodes_in_pair l.pair-items))
    ≡ left_of l.left (sum (map nodes_in_pair (drop l.pair-index l.pair-items)))
