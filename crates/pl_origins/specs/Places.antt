-- All places of a file's node: of its nodes and of its keys, in the order in which they stand.
use Rattle.std.specs.Prelude.{List, [], ◌∷◌, ◌++◌}
use Rattle.pl_base.specs.declared.place.Place.{Place}
use Rattle.pl_base.specs.declared.node.Node.{Node, fold-Node}
use Rattle.pl_base.specs.declared.node.NodeBody.{NodeBody, fold-NodeBody}
use Rattle.pl_base.specs.declared.node.NodePair.{NodePair, fold-NodePair}
use Rattle.pl_base.specs.declared.node.NodeBody.TheOpen.{NodeBody-F, Node-F, NodePair-F}
use Rattle.pl_base.specs.declared.node.NodeBody.TheOpen.{Scalar, Seq, Map}

abbrev pub Places : Type 0
Places = List Place

-- lists, one behind the other
abbrev pub together : List Places → Places
together [] = []
together (first ∷ rest) = first ++ together rest

abbrev pub body_step : NodeBody-F Places Places Places → Places
body_step (Scalar text) = []
body_step (Seq items) = together items
body_step (Map pairs) = together pairs

abbrev pub node_step : Node-F Places Places Places → Places
node_step node = node.place ∷ node.body

abbrev pub pair_step : NodePair-F Places Places Places → Places
pair_step pair = pair.key_place ∷ pair.item

unfoldable pub places_of : Node → Places
places_of = fold-Node Places Places Places body_step node_step pair_step

unfoldable pub places_below : NodeBody → Places
places_below = fold-NodeBody Places Places Places body_step node_step pair_step

unfoldable pub places_in : NodePair → Places
places_in = fold-NodePair Places Places Places body_step node_step pair_step
