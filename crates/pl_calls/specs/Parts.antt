-- Parts of nodes.
use Rattle.std.specs.Prelude.{ℕ, List, find, Option, Some, None}
use Rattle.std.specs.Option.{option_map, option_and_then}
use Rattle.pl_base.specs.declared.place.Place.{Place}
use Rattle.pl_base.specs.declared.node.Node.{Node}
use Rattle.pl_base.specs.declared.node.NodeBody.{NodeBody, out-NodeBody}
use Rattle.pl_base.specs.declared.node.NodeBody.TheOpen.{NodeBody-F, Scalar, Seq, Map}
use Rattle.pl_base.specs.declared.node.NodePair.{NodePair}
use Rattle.pl_params.specs.Nodes.{under}
use Rattle.pl_base.specs.Texts.{is}

abbrev pub Body : Type 0
Body = NodeBody-F NodeBody Node NodePair

abbrev pub body_of : Node → Body
body_of node = out-NodeBody node.body

abbrev pub text_in : Body → Option (List ℕ)
text_in (Scalar text) = Some text
text_in other = None

abbrev pub items_in : Body → Option (List Node)
items_in (Seq items) = Some items
items_in other = None

abbrev pub pairs_in : Body → Option (List NodePair)
pairs_in (Map pairs) = Some pairs
pairs_in other = None

-- where a key stands
abbrev pub key_place_of : List ℕ → List NodePair → Option Place
key_place_of key pairs = option_map (λ pair. pair.key_place) (find (λ pair. is pair.key key) pairs)

abbrev pub text_under : List ℕ → List NodePair → Option (List ℕ)
text_under key pairs = option_and_then (λ node. text_in (body_of node)) (under key pairs)
