use Rattle.std.proofs.Common.{◌≡◌, map, take}
use Rattle.pl_frame.specs.Moves.{moved_by, pair_moved_by}
use Rattle.pl_frame.proofs.moving.+moving.Given as goal

abbrev pub invariant-items_by-loop-item : goal.invariant-items_by-loop-item
invariant-items_by-loop-item l = l.all ≡ map (moved_by l.by) (take l.item-index l.item-items)

abbrev pub invariant-pairs_by-loop-pair : goal.invariant-pairs_by-loop-pair
invariant-pairs_by-loop-pair l = l.all ≡ map (pair_moved_by l.by) (take l.pair-index l.pair-items)
