-- All origins of a tree of values: of its nodes and of its keys, in the order in which they stand.
use Rattle.std.specs.Prelude.{List, [], ◌∷◌, ◌++◌}
use Rattle.pl_base.specs.declared.origin.Origin.{Origin}
use Rattle.pl_base.specs.declared.value.Value.{Value, fold-Value}
use Rattle.pl_base.specs.declared.value.Value.TheOpen.{Value-F, MarkedNode-F, MarkedPair-F}
use Rattle.pl_base.specs.declared.value.Value.TheOpen.{Array, Object}
use Rattle.pl_base.specs.declared.value.MarkedNode.{MarkedNode, fold-MarkedNode}
use Rattle.pl_base.specs.declared.value.MarkedPair.{MarkedPair, fold-MarkedPair}

abbrev pub Origins : Type 0
Origins = List Origin

-- lists, one behind the other
abbrev pub together : List Origins → Origins
together [] = []
together (first ∷ rest) = first ++ together rest

-- a value has the origins of its items or of its pairs, and an atom has none
abbrev pub value_step : Value-F Origins Origins Origins → Origins
value_step (Array items) = together items
value_step (Object pairs) = together pairs
value_step atom = []

-- a node has its own, and those below it
abbrev pub node_step : MarkedNode-F Origins Origins Origins → Origins
node_step node = node.origin ∷ node.value

-- a pair has its key's, and those of its value
abbrev pub pair_step : MarkedPair-F Origins Origins Origins → Origins
pair_step pair = pair.key_origin ∷ pair.item

unfoldable pub origins_of : MarkedNode → Origins
origins_of = fold-MarkedNode Origins Origins Origins value_step node_step pair_step

unfoldable pub origins_below : Value → Origins
origins_below = fold-Value Origins Origins Origins value_step node_step pair_step

unfoldable pub origins_in : MarkedPair → Origins
origins_in = fold-MarkedPair Origins Origins Origins value_step node_step pair_step
