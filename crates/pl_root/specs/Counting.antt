-- How many nodes a YAML text's tree has.
use Rattle.std.specs.Prelude.{ℕ, ◌+◌, sum}
use Rattle.pl_base.specs.declared.node.Node.{Node, fold-Node}
use Rattle.pl_base.specs.declared.node.NodeBody.{NodeBody, fold-NodeBody}
use Rattle.pl_base.specs.declared.node.NodeBody.TheOpen.{NodeBody-F, Node-F, NodePair-F, Scalar}
use Rattle.pl_base.specs.declared.node.NodeBody.TheOpen.{Seq, Map}
use Rattle.pl_base.specs.declared.node.NodePair.{NodePair, fold-NodePair}

-- ---- the number of nodes; keys are none

abbrev pub nodes_below : NodeBody-F ℕ ℕ ℕ → ℕ
nodes_below (Scalar text) = 0
nodes_below (Seq items) = sum items
nodes_below (Map pairs) = sum pairs

abbrev pub nodes_step : Node-F ℕ ℕ ℕ → ℕ
nodes_step node = 1 + node.body

abbrev pub nodes_pair : NodePair-F ℕ ℕ ℕ → ℕ
nodes_pair pair = pair.item

abbrev pub nodes_in : Node → ℕ
nodes_in = fold-Node ℕ ℕ ℕ nodes_below nodes_step nodes_pair

-- those below a node, and those of a pair's value
abbrev pub nodes_in_body : NodeBody → ℕ
nodes_in_body = fold-NodeBody ℕ ℕ ℕ nodes_below nodes_step nodes_pair

abbrev pub nodes_in_pair : NodePair → ℕ
nodes_in_pair = fold-NodePair ℕ ℕ ℕ nodes_below nodes_step nodes_pair
