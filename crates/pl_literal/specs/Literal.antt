-- A node of a YAML text as a value: what is written there, not evaluated.
use Rattle.std.specs.Prelude.{ℕ, List}
use Rattle.pl_base.specs.declared.place.Place.{Place}
use Rattle.pl_base.specs.declared.origin.Origin.{Origin}
use Rattle.pl_base.specs.declared.origin.Crossing.{Crossing}
use Rattle.pl_base.specs.declared.node.Node.{Node, fold-Node}
use Rattle.pl_base.specs.declared.node.NodeBody.{NodeBody, fold-NodeBody}
use Rattle.pl_base.specs.declared.node.NodePair.{NodePair, fold-NodePair}
use Rattle.pl_base.specs.declared.node.NodeBody.TheOpen.{NodeBody-F, Node-F, NodePair-F, Scalar}
use Rattle.pl_base.specs.declared.node.NodeBody.TheOpen.{Seq, Map}
use Rattle.pl_base.specs.declared.value.Value.{Value, Str, Array, Object}
use Rattle.pl_base.specs.declared.value.MarkedNode.{MarkedNode}
use Rattle.pl_base.specs.declared.value.MarkedPair.{MarkedPair}

-- a place of a file whose template was reached across these borders
abbrev pub origin_at : List Crossing → Place → Origin
origin_at crossings place = record { source = place; crossings = crossings }

-- a scalar is a text, a sequence an array, a mapping an object
abbrev pub literal_body_step : NodeBody-F Value MarkedNode MarkedPair → Value
literal_body_step (Scalar text) = Str text
literal_body_step (Seq items) = Array items
literal_body_step (Map pairs) = Object pairs

-- every node and every key comes from its own place, across these borders
abbrev pub literal_step : List Crossing → Node-F Value MarkedNode MarkedPair → MarkedNode
literal_step crossings node = record { origin = origin_at crossings node.place; value = node.body }

abbrev pub literal_pair_step : List Crossing → NodePair-F Value MarkedNode MarkedPair → MarkedPair
literal_pair_step crossings pair = record {
  key = pair.key;
  key_origin =
      origin_at crossings pair.key_place;
  item = pair.item;
}

abbrev pub literal : List Crossing → Node → MarkedNode
literal crossings = fold-Node Value MarkedNode MarkedPair literal_body_step (literal_step crossings)
    (literal_pair_step crossings)

abbrev pub literal_body : List Crossing → NodeBody → Value
literal_body crossings = fold-NodeBody Value MarkedNode MarkedPair literal_body_step
    (literal_step crossings) (literal_pair_step crossings)

abbrev pub literal_pair : List Crossing → NodePair → MarkedPair
literal_pair crossings = fold-NodePair Value MarkedNode MarkedPair literal_body_step
    (literal_step crossings) (literal_pair_step crossings)
