-- Trees of values: how many nodes they have, and other origins for all of their nodes.
use Rattle.std.specs.Prelude.{ℕ, ◌+◌, sum, Option, Some, None, nat_le, if◌then◌else◌}
use Rattle.pl_base.specs.declared.origin.Origin.{Origin}
use Rattle.pl_base.specs.declared.value.Value.{Value, fold-Value}
use Rattle.pl_base.specs.declared.value.Value as value
use Rattle.pl_base.specs.declared.value.Value.TheOpen.{Value-F, MarkedNode-F, MarkedPair-F, Null}
use Rattle.pl_base.specs.declared.value.Value.TheOpen.{Bool as Truth, Number, Version, Str, Array}
use Rattle.pl_base.specs.declared.value.Value.TheOpen.{Object}
use Rattle.pl_base.specs.declared.value.MarkedNode.{MarkedNode, fold-MarkedNode}
use Rattle.pl_base.specs.declared.value.MarkedPair.{MarkedPair}

-- ---- the number of nodes; keys are none

abbrev pub nodes_below : Value-F ℕ ℕ ℕ → ℕ
nodes_below (Array items) = sum items
nodes_below (Object pairs) = sum pairs
nodes_below atom = 0

abbrev pub nodes_step : MarkedNode-F ℕ ℕ ℕ → ℕ
nodes_step node = 1 + node.value

abbrev pub nodes_pair : MarkedPair-F ℕ ℕ ℕ → ℕ
nodes_pair pair = pair.item

abbrev pub nodes_in : MarkedNode → ℕ
nodes_in = fold-MarkedNode ℕ ℕ ℕ nodes_below nodes_step nodes_pair

-- that number, where it is at most so large
abbrev pub at_most : ℕ → ℕ → Option ℕ
at_most most count = if nat_le count most then Some count else None

-- ---- the same tree with other origins, of keys too

abbrev pub moved_value : Value-F Value MarkedNode MarkedPair → Value
moved_value Null = value.Null
moved_value (Truth truth) = value.Bool truth
moved_value (Number number) = value.Number number
moved_value (Version segments) = value.Version segments
moved_value (Str text) = value.Str text
moved_value (Array items) = value.Array items
moved_value (Object pairs) = value.Object pairs

abbrev pub moved_node : (Origin → Origin) → MarkedNode-F Value MarkedNode MarkedPair → MarkedNode
moved_node move node = record { origin = move node.origin; value = node.value }

abbrev pub moved_pair : (Origin → Origin) → MarkedPair-F Value MarkedNode MarkedPair → MarkedPair
moved_pair move pair =
    record { key = pair.key; key_origin = move pair.key_origin; item = pair.item }

abbrev pub moved : (Origin → Origin) → MarkedNode → MarkedNode
moved move =
    fold-MarkedNode Value MarkedNode MarkedPair
    moved_value (moved_node move) (moved_pair move)

abbrev pub all_moved : (Origin → Origin) → Value → Value
all_moved move =
    fold-Value Value MarkedNode MarkedPair
    moved_value (moved_node move) (moved_pair move)
