-- The moves of origins, one definition for each kind of value.
use Rattle.pl_base.specs.declared.origin.Origin.{Origin}
use Rattle.pl_base.specs.declared.value.Value.{Value}
use Rattle.pl_base.specs.declared.value.MarkedNode.{MarkedNode}
use Rattle.pl_base.specs.declared.value.MarkedPair.{MarkedPair, fold-MarkedPair}
use Rattle.pl_frame.specs.declared.moving.Move.{Move}
use Rattle.pl_frame.specs.declared.moving.Move.TheVariants.{Across, Reached, To}
use Rattle.pl_frame.specs.Bindings.{crossed}
use Rattle.pl_frame.specs.Origins.{across}
use Rattle.pl_frame.specs.Trees.{moved, all_moved, moved_value, moved_node, moved_pair}

abbrev pub move_by : Move → Origin → Origin
move_by (Across crossing) origin = across crossing origin
move_by (Reached crossings) origin = crossed crossings origin
move_by (To other) origin = other

abbrev pub moved_by : Move → MarkedNode → MarkedNode
moved_by by = moved (move_by by)

abbrev pub all_moved_by : Move → Value → Value
all_moved_by by = all_moved (move_by by)

abbrev pub pair_moved_by : Move → MarkedPair → MarkedPair
pair_moved_by by =
    fold-MarkedPair Value MarkedNode MarkedPair
    moved_value (moved_node (move_by by)) (moved_pair (move_by by))
