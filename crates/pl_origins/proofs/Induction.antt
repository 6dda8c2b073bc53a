-- Induction over trees of values and over files' nodes, by their layers.
use Rattle.std.proofs.Common.{ℕ, List, [], ◌∷◌, map, subst}
use Rattle.std.specs.List.{AllByRecursion as Each}
use Rattle.pl_base.specs.declared.origin.Origin.{Origin}
use Rattle.pl_base.specs.declared.place.Place.{Place}
use Rattle.pl_base.specs.declared.value.Value.{Value, roll-Value, map-Value}
use Rattle.pl_base.specs.declared.value.Value.TheOpen.{Value-F, MarkedNode-F, MarkedPair-F, Null}
use Rattle.pl_base.specs.declared.value.Value.TheOpen.{Bool as Truth, Number, Version, Str, Array}
use Rattle.pl_base.specs.declared.value.Value.TheOpen.{Object}
use Rattle.pl_base.specs.declared.value.MarkedNode.{MarkedNode, roll-MarkedNode, map-MarkedNode}
use Rattle.pl_base.specs.declared.value.MarkedNode.{ind-MarkedNode}
use Rattle.pl_base.specs.declared.value.MarkedPair.{MarkedPair, roll-MarkedPair, map-MarkedPair}
use Rattle.pl_base.specs.declared.value.Value.{ind-Value}
use Rattle.pl_base.specs.declared.node.Node.{Node, ind-Node, roll-Node, map-Node}
use Rattle.pl_base.specs.declared.node.NodePair.{NodePair, roll-NodePair, map-NodePair}
use Rattle.pl_base.specs.declared.node.NodeBody.{NodeBody, roll-NodeBody, map-NodeBody}
use Rattle.pl_base.specs.declared.node.NodeBody.TheOpen.{NodeBody-F, Node-F, NodePair-F}
use Rattle.pl_base.specs.declared.node.NodeBody.TheOpen.{Scalar, Seq, Map}

all_of :
    {X Y : Type 0} (P : Y → Type 0) (f : X → Y) → ((x : X) → P (f x)) → (xs : List X) →
    Each P (map f xs)
all_of P f claims [] = tt
all_of P f claims (x ∷ xs) = (claims x, all_of P f claims xs)

-- ---- values: what is claimed of the parts of a layer

abbrev pub Parts :
    (MarkedNode → Type 0) → (MarkedPair → Type 0) → Value-F Value MarkedNode MarkedPair → Type 0
Parts Q R (Array items) = Each Q items
Parts Q R (Object pairs) = Each R pairs
Parts Q R atom = Unit {0}

module _ (P : Value → Type 0) (Q : MarkedNode → Type 0) (R : MarkedPair → Type 0)
    (of_layer : (layer : Value-F Value MarkedNode MarkedPair) → Parts Q R layer →
    P (roll-Value layer))
    (of_node : (origin : Origin) (one : Value) → P one →
    Q (record { origin = origin; value = one }))
    (of_pair : (key : List ℕ) (key_origin : Origin) (item : MarkedNode) → Q item →
    R (record { key = key; key_origin = key_origin; item = item })) where
  module _ {V N M : Type 0} (f : V → Value) (g : N → MarkedNode) (h : M → MarkedPair)
      (values : (v : V) → P (f v)) (nodes : (n : N) → Q (g n)) (pairs : (m : M) → R (h m)) where
    parts_of :
        (x : Value-F V N M) → Parts Q R (map-Value V N M Value MarkedNode MarkedPair f g h x)
    parts_of Null = tt
    parts_of (Truth truth) = tt
    parts_of (Number number) = tt
    parts_of (Version segments) = tt
    parts_of (Str text) = tt
    parts_of (Array xs) = all_of Q g nodes xs
    parts_of (Object xs) = all_of R h pairs xs

    value_holds :
        (x : Value-F V N M) → P (roll-Value (map-Value V N M Value MarkedNode MarkedPair f g h x))
    value_holds x = of_layer (map-Value V N M Value MarkedNode MarkedPair f g h x) (parts_of x)

    node_holds :
        (x : MarkedNode-F V N M) →
        Q (roll-MarkedNode (map-MarkedNode V N M Value MarkedNode MarkedPair f g h x))
    node_holds x = of_node x.origin (f x.value) (values x.value)

    pair_holds :
        (x : MarkedPair-F V N M) →
        R (roll-MarkedPair (map-MarkedPair V N M Value MarkedNode MarkedPair f g h x))
    pair_holds x = of_pair x.key x.key_origin (g x.item) (nodes x.item)

  pub node_induction : (node : MarkedNode) → Q node
  node_induction =
      ind-MarkedNode P Q R
      (λ x y e. subst (λ l. P (roll-Value l)) e
      (value_holds (λ e. e.0) (λ e. e.0) (λ e. e.0) (λ e. e.1) (λ e. e.1) (λ e. e.1) y))
      (λ x y e. subst (λ l. Q (roll-MarkedNode l)) e
      (node_holds (λ e. e.0) (λ e. e.0) (λ e. e.0) (λ e. e.1) (λ e. e.1) (λ e. e.1) y))
      (λ x y e. subst (λ l. R (roll-MarkedPair l)) e
      (pair_holds (λ e. e.0) (λ e. e.0) (λ e. e.0) (λ e. e.1) (λ e. e.1) (λ e. e.1) y))

  pub value_induction : (one : Value) → P one
  value_induction =
      ind-Value P Q R
      (λ x y e. subst (λ l. P (roll-Value l)) e
      (value_holds (λ e. e.0) (λ e. e.0) (λ e. e.0) (λ e. e.1) (λ e. e.1) (λ e. e.1) y))
      (λ x y e. subst (λ l. Q (roll-MarkedNode l)) e
      (node_holds (λ e. e.0) (λ e. e.0) (λ e. e.0) (λ e. e.1) (λ e. e.1) (λ e. e.1) y))
      (λ x y e. subst (λ l. R (roll-MarkedPair l)) e
      (pair_holds (λ e. e.0) (λ e. e.0) (λ e. e.0) (λ e. e.1) (λ e. e.1) (λ e. e.1) y))

-- ---- files' nodes

abbrev pub BodyParts :
    (Node → Type 0) → (NodePair → Type 0) → NodeBody-F NodeBody Node NodePair → Type 0
BodyParts Q R (Scalar text) = Unit {0}
BodyParts Q R (Seq items) = Each Q items
BodyParts Q R (Map pairs) = Each R pairs

module _ (P : NodeBody → Type 0) (Q : Node → Type 0) (R : NodePair → Type 0)
    (of_layer : (layer : NodeBody-F NodeBody Node NodePair) → BodyParts Q R layer →
    P (roll-NodeBody layer))
    (of_node : (place : Place) (body : NodeBody) → P body →
    Q (record { place = place; body = body }))
    (of_pair : (key : List ℕ) (key_place : Place) (item : Node) → Q item →
    R (record { key = key; key_place = key_place; item = item })) where
  module _ {B N M : Type 0} (f : B → NodeBody) (g : N → Node) (h : M → NodePair)
      (bodies : (b : B) → P (f b)) (nodes : (n : N) → Q (g n)) (pairs : (m : M) → R (h m)) where
    body_parts_of :
        (x : NodeBody-F B N M) → BodyParts Q R (map-NodeBody B N M NodeBody Node NodePair f g h x)
    body_parts_of (Scalar text) = tt
    body_parts_of (Seq xs) = all_of Q g nodes xs
    body_parts_of (Map xs) = all_of R h pairs xs

    body_holds :
        (x : NodeBody-F B N M) →
        P (roll-NodeBody (map-NodeBody B N M NodeBody Node NodePair f g h x))
    body_holds x = of_layer (map-NodeBody B N M NodeBody Node NodePair f g h x) (body_parts_of x)

    written_holds :
        (x : Node-F B N M) → Q (roll-Node (map-Node B N M NodeBody Node NodePair f g h x))
    written_holds x = of_node x.place (f x.body) (bodies x.body)

    entry_holds :
        (x : NodePair-F B N M) →
        R (roll-NodePair (map-NodePair B N M NodeBody Node NodePair f g h x))
    entry_holds x = of_pair x.key x.key_place (g x.item) (nodes x.item)

  pub written_induction : (node : Node) → Q node
  written_induction =
      ind-Node P Q R
      (λ x y e. subst (λ l. P (roll-NodeBody l)) e
      (body_holds (λ e. e.0) (λ e. e.0) (λ e. e.0) (λ e. e.1) (λ e. e.1) (λ e. e.1) y))
      (λ x y e. subst (λ l. Q (roll-Node l)) e
      (written_holds (λ e. e.0) (λ e. e.0) (λ e. e.0) (λ e. e.1) (λ e. e.1) (λ e. e.1) y))
      (λ x y e. subst (λ l. R (roll-NodePair l)) e
      (entry_holds (λ e. e.0) (λ e. e.0) (λ e. e.0) (λ e. e.1) (λ e. e.1) (λ e. e.1) y))
