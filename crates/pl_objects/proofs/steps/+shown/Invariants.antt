use Rattle.std.proofs.Common.{◌≡◌, map, take}
use Rattle.pl_objects.specs.Steps.{node_json, pair_member}
use Rattle.pl_objects.proofs.steps.+shown.Given as goal

abbrev pub invariant-items_json-loop-item : goal.invariant-items_json-loop-item
invariant-items_json-loop-item l = l.shown ≡ map node_json (take l.item-index l.item-items)

abbrev pub invariant-pairs_json-loop-pair : goal.invariant-pairs_json-loop-pair
invariant-pairs_json-loop-pair l = l.members ≡ map pair_member (take l.pair-index l.pair-items)
