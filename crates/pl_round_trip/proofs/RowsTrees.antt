-- Induction over a tree.
use Rattle.pl_base.specs.declared.place.Place.{Place}
use Rattle.pl_base.specs.declared.node.Node.{Node, ind-Node, roll-Node, map-Node}
use Rattle.pl_base.specs.declared.node.NodePair.{NodePair, roll-NodePair, map-NodePair}
use Rattle.pl_base.specs.declared.node.NodeBody.{NodeBody, roll-NodeBody, map-NodeBody}
use Rattle.pl_base.specs.declared.node.NodeBody.TheVariants as bodies
use Rattle.pl_base.specs.declared.node.NodeBody.TheOpen.{NodeBody-F, Node-F, NodePair-F, Scalar}
use Rattle.pl_base.specs.declared.node.NodeBody.TheOpen.{Seq, Map}
use Rattle.std.proofs.Common.{ℕ, List, [], ◌∷◌, map, subst, sym}
use Rattle.std.specs.List.{AllByRecursion}

all_of :
    {X Y : Type 0} (P : Y → Type 0) (f : X → Y) → ((x : X) → P (f x)) → (xs : List X) →
    AllByRecursion P (map f xs)
all_of P f claims [] = tt
all_of P f claims (x ∷ xs) = (claims x, all_of P f claims xs)

-- one layer of a body, whose parts satisfy the claims
of_body : (P : NodeBody → Type 0) (Q : Node → Type 0) (R : NodePair → Type 0)
    → ((text : List ℕ) → P (bodies.Scalar text))
    → ((items : List Node) → AllByRecursion Q items → P (bodies.Seq items))
    → ((pairs : List NodePair) → AllByRecursion R pairs → P (bodies.Map pairs))
    → (B N M : Type 0) (f : B → NodeBody) (g : N → Node) (h : M → NodePair) → ((n : N) → Q (g n)) →
    ((m : M) → R (h m))
    → (y : NodeBody-F B N M) → P (roll-NodeBody (map-NodeBody B N M NodeBody Node NodePair f g h y))
of_body P Q R scalar seq mapping B N M f g h items pairs (Scalar text) =
    subst P (sym (bodies.rolls-Scalar text)) (scalar text)
of_body P Q R scalar seq mapping B N M f g h items pairs (Seq ys) =
    subst P (sym (bodies.rolls-Seq (map g ys))) (seq (map g ys) (all_of Q g items ys))
of_body P Q R scalar seq mapping B N M f g h items pairs (Map ys) =
    subst P (sym (bodies.rolls-Map (map h ys))) (mapping (map h ys) (all_of R h pairs ys))

of_node :
    (P : NodeBody → Type 0) (Q : Node → Type 0) →
    ((place : Place) (body : NodeBody) → P body → Q (record { place = place; body = body }))
    → (B N M : Type 0) (f : B → NodeBody) (g : N → Node) (h : M → NodePair) → ((b : B) → P (f b))
    → (y : Node-F B N M) → Q (roll-Node (map-Node B N M NodeBody Node NodePair f g h y))
of_node P Q node B N M f g h body y = node y.place (f y.body) (body y.body)

of_pair : (Q : Node → Type 0) (R : NodePair → Type 0)
    → ((key : List ℕ) (key_place : Place) (item : Node) → Q item →
    R (record { key = key; key_place = key_place; item = item }))
    → (B N M : Type 0) (f : B → NodeBody) (g : N → Node) (h : M → NodePair) → ((n : N) → Q (g n))
    → (y : NodePair-F B N M) → R (roll-NodePair (map-NodePair B N M NodeBody Node NodePair f g h y))
of_pair Q R pair B N M f g h item y = pair y.key y.key_place (g y.item) (item y.item)

pub node_induction : (P : NodeBody → Type 0) (Q : Node → Type 0) (R : NodePair → Type 0)
    → ((text : List ℕ) → P (bodies.Scalar text))
    → ((items : List Node) → AllByRecursion Q items → P (bodies.Seq items))
    → ((pairs : List NodePair) → AllByRecursion R pairs → P (bodies.Map pairs))
    → ((place : Place) (body : NodeBody) → P body → Q (record { place = place; body = body }))
    → ((key : List ℕ) (key_place : Place) (item : Node) → Q item →
    R (record { key = key; key_place = key_place; item = item }))
    → (node : Node) → Q node
node_induction P Q R scalar seq mapping node pair =
    ind-Node P Q R
    (λ x y e. subst (λ l. P (roll-NodeBody l)) e (of_body P Q R scalar seq mapping _ _ _ (λ e. e.0)
    (λ e. e.0) (λ e. e.0) (λ e. e.1) (λ e. e.1) y))
    (λ x y e. subst (λ l. Q (roll-Node l)) e (of_node P Q node _ _ _ (λ e. e.0) (λ e. e.0)
    (λ e. e.0) (λ e. e.1) y))
    (λ x y e. subst (λ l. R (roll-NodePair l)) e (of_pair Q R pair _ _ _ (λ e. e.0) (λ e. e.0)
    (λ e. e.0) (λ e. e.1) y))
