-- Nodes of a YAML text, as far as declarations read them.
use Rattle.std.specs.Prelude.{ℕ, List, [], find, Option, Some, None}
use Rattle.std.specs.Option.{option_map}
use Rattle.pl_base.specs.declared.node.Node.{Node}
use Rattle.pl_base.specs.declared.node.NodeBody.{NodeBody, out-NodeBody}
use Rattle.pl_base.specs.declared.node.NodeBody.TheOpen.{NodeBody-F, Scalar, Seq, Map}
use Rattle.pl_base.specs.declared.node.NodePair.{NodePair}
use Rattle.pl_base.specs.Texts.{is}
use Rattle.pl_params.specs.declared.fault.Found.{Found}
use Rattle.pl_params.specs.declared.fault.Found.TheVariants.{Atom, Sequence, Mapping}

-- a body as far as one level
abbrev pub Body : Type 0
Body = NodeBody-F NodeBody Node NodePair

-- a scalar's text, and none of another node
abbrev pub text_in : Body → List ℕ
text_in (Scalar text) = text
text_in body = []

abbrev pub text_of : Node → List ℕ
text_of node = text_in (out-NodeBody node.body)

-- a sequence's items
abbrev pub items_in : Body → Option (List Node)
items_in (Seq items) = Some items
items_in body = None

abbrev pub items_of : Node → Option (List Node)
items_of node = items_in (out-NodeBody node.body)

-- a node as a complaint names it
abbrev pub found_in : Body → Found
found_in (Scalar text) = Atom text
found_in (Seq items) = Sequence
found_in (Map pairs) = Mapping

abbrev pub found_at : Node → Found
found_at node = found_in (out-NodeBody node.body)

-- what stands under the first key that is that text
abbrev pub under : List ℕ → List NodePair → Option Node
under key pairs = option_map (λ pair. pair.item) (find (λ pair. is pair.key key) pairs)
