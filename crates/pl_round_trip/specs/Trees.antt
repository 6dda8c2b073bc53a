-- Trees of nodes: their depth, their keys, and what is left of them without places (YAML 1.2.2,
-- section 3.2.1).
use Rattle.std.specs.Prelude.{◌≡◌, ℕ, ◌+◌, max, Bool, true, ◌&&◌, not, nat_eq, List, [], ◌∷◌, ◌++◌}
use Rattle.std.specs.Prelude.{Result, Ok, Err, codes}
use Rattle.std.specs.Str.{is_utf8}
use Rattle.std.specs.List.{starts_with, list_any, list_all}
use Rattle.std.specs.Cmp.Lexicographic.{pointwise}
use Rattle.pl_base.specs.declared.place.FileKey.{FileKey}
use Rattle.pl_base.specs.declared.place.Place.{Place}
use Rattle.pl_base.specs.Places.{place_at}
use Rattle.pl_base.specs.declared.node.Node.{Node, fold-Node}
use Rattle.pl_base.specs.declared.node.NodeBody.{NodeBody, fold-NodeBody}
use Rattle.pl_base.specs.declared.node.NodeBody.TheVariants as bodies
use Rattle.pl_base.specs.declared.node.NodeBody.TheOpen.{NodeBody-F, Node-F, NodePair-F, Scalar}
use Rattle.pl_base.specs.declared.node.NodeBody.TheOpen.{Seq, Map}
use Rattle.pl_base.specs.declared.node.NodePair.{NodePair, fold-NodePair}
use Rattle.pl_line.specs.declared.code.YamlCode.{YamlCode}

-- ---- how many collections are open at one place of a tree, at most

abbrev pub highest : List ℕ → ℕ
highest [] = 0
highest (n ∷ ns) = max n (highest ns)

abbrev pub depth_of_body : NodeBody-F ℕ ℕ ℕ → ℕ
depth_of_body (Scalar text) = 0
depth_of_body (Seq items) = 1 + highest items
depth_of_body (Map pairs) = 1 + highest pairs

abbrev pub depth_of_node : Node-F ℕ ℕ ℕ → ℕ
depth_of_node node = node.body

abbrev pub depth_of_pair : NodePair-F ℕ ℕ ℕ → ℕ
depth_of_pair pair = pair.item

abbrev pub depth : Node → ℕ
depth = fold-Node ℕ ℕ ℕ depth_of_body depth_of_node depth_of_pair

-- ---- no mapping of a tree has a key twice, but one that begins with `${{`

abbrev pub is_again : List ℕ → List (List ℕ) → Bool
is_again key before =
    not (starts_with nat_eq key (codes "${{")) && list_any (λ other. pointwise nat_eq other key)
    before

abbrev pub differ_behind : List (List ℕ) → List (List ℕ × Bool) → Bool
differ_behind before [] = true
differ_behind before (pair ∷ pairs) = not (is_again pair.0 before) &&
    (pair.1 && differ_behind (before ++ pair.0 ∷ []) pairs)

abbrev pub differ_in_body : NodeBody-F Bool Bool (List ℕ × Bool) → Bool
differ_in_body (Scalar text) = true
differ_in_body (Seq items) = list_all (λ differ. differ) items
differ_in_body (Map pairs) = differ_behind [] pairs

abbrev pub differ_in_node : Node-F Bool Bool (List ℕ × Bool) → Bool
differ_in_node node = node.body

abbrev pub differ_in_pair : NodePair-F Bool Bool (List ℕ × Bool) → List ℕ × Bool
differ_in_pair pair = (pair.key, pair.item)

abbrev pub keys_differ : Node → Bool
keys_differ = fold-Node Bool Bool (List ℕ × Bool) differ_in_body differ_in_node differ_in_pair

-- ---- the scalars and keys of a tree are texts: bytes in UTF-8

abbrev pub texts_in_body : NodeBody-F Bool Bool Bool → Bool
texts_in_body (Scalar text) = is_utf8 text
texts_in_body (Seq items) = list_all (λ texts. texts) items
texts_in_body (Map pairs) = list_all (λ texts. texts) pairs

abbrev pub texts_in_node : Node-F Bool Bool Bool → Bool
texts_in_node node = node.body

abbrev pub texts_in_pair : NodePair-F Bool Bool Bool → Bool
texts_in_pair pair = is_utf8 pair.key && pair.item

abbrev pub has_texts : Node → Bool
has_texts = fold-Node Bool Bool Bool texts_in_body texts_in_node texts_in_pair

abbrev pub texts_of_body : NodeBody → Bool
texts_of_body = fold-NodeBody Bool Bool Bool texts_in_body texts_in_node texts_in_pair

abbrev pub texts_of_pair : NodePair → Bool
texts_of_pair = fold-NodePair Bool Bool Bool texts_in_body texts_in_node texts_in_pair

-- ---- a tree without its places: each node and each key stands at line 1, column 1

abbrev pub body_without : NodeBody-F NodeBody Node NodePair → NodeBody
body_without (Scalar text) = bodies.Scalar text
body_without (Seq items) = bodies.Seq items
body_without (Map pairs) = bodies.Map pairs

abbrev pub node_without : FileKey → Node-F NodeBody Node NodePair → Node
node_without file node = record { place = place_at file 1 1; body = node.body }

abbrev pub pair_without : FileKey → NodePair-F NodeBody Node NodePair → NodePair
pair_without file pair = record { key = pair.key; key_place = place_at file 1 1; item = pair.item }

abbrev pub without_places : FileKey → Node → Node
without_places file = fold-Node NodeBody Node NodePair body_without (node_without file)
    (pair_without file)

-- what a text spells is that tree, up to places
abbrev pub ReadsAs : FileKey → Node → Result Node (YamlCode × Place) → Type 0
ReadsAs file node (Ok read) = without_places file read ≡ without_places file node
ReadsAs file node (Err fault) = ⊥
