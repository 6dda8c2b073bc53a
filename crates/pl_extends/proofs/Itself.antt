-- A part of the root file as it is seen is itself.
use Rattle.std.proofs.Common.{◌≡◌, ℕ, List, [], ◌∷◌, map, refl, ap, ap₂, sym, ◌∙◌, subst, rules}
use Rattle.std.specs.List.{AllByRecursion as Each}
use Rattle.pl_base.specs.declared.place.Place.{Place}
use Rattle.pl_base.specs.declared.node.Node.{Node, roll-Node, map-Node, ind-Node}
use Rattle.pl_base.specs.declared.node.NodeBody.{NodeBody, roll-NodeBody, map-NodeBody, the_lemmas}
use Rattle.pl_base.specs.declared.node.NodeBody.TheVariants as written
use Rattle.pl_base.specs.declared.node.NodeBody.TheOpen.{NodeBody-F, Node-F, NodePair-F}
use Rattle.pl_base.specs.declared.node.NodeBody.TheOpen.{Scalar, Seq, Map}
use Rattle.pl_base.specs.declared.node.NodePair.{NodePair, roll-NodePair, map-NodePair}
use Rattle.pl_extends.specs.Rooting.{NodeSeen, PairSeen, node_seen, body_seen, pair_seen}

abbrev BodyClaim : NodeBody → Type 0
BodyClaim one = (body_seen one).itself ≡ one

abbrev NodeClaim : Node → Type 0
NodeClaim one = (node_seen one).itself ≡ one

abbrev PairClaim : NodePair → Type 0
PairClaim one = (pair_seen one).itself ≡ one

abbrev Opened : Type 0
Opened = NodeBody-F NodeBody Node NodePair

-- what is claimed of the parts of a layer
abbrev Parts : Opened → Type 0
Parts (Scalar text) = Unit {0}
Parts (Seq items) = Each NodeClaim items
Parts (Map pairs) = Each PairClaim pairs

all_itself :
    {X Y : Type 0} (seen : X → Y) (itself : Y → X) (all : List X) →
    Each (λ one. itself (seen one) ≡ one) all → map itself (map seen all) ≡ all
all_itself seen itself [] claims = refl
all_itself seen itself (one ∷ all) (first, rest) =
    ap₂ (λ one all. one ∷ all) first (all_itself seen itself all rest)

body_claim : (layer : Opened) → Parts layer → BodyClaim (roll-NodeBody layer)
body_claim (Scalar text) parts = search (rules, the_lemmas)
body_claim (Seq items) parts =
    let seen :
    (body_seen (written.Seq items)).itself
    ≡ written.Seq (map (λ (node : NodeSeen). node.itself) (map node_seen items)) =
    search (rules, the_lemmas) in
    let rolled : roll-NodeBody (Seq items) ≡ written.Seq items = search (rules, the_lemmas) in
    subst (λ (one : NodeBody). BodyClaim one) (sym rolled)
    (seen ∙ ap (λ all. written.Seq all) (all_itself node_seen (λ node. node.itself) items parts))
body_claim (Map pairs) parts =
    let seen :
    (body_seen (written.Map pairs)).itself
    ≡ written.Map (map (λ (pair : PairSeen). pair.itself) (map pair_seen pairs)) =
    search (rules, the_lemmas) in
    let rolled : roll-NodeBody (Map pairs) ≡ written.Map pairs = search (rules, the_lemmas) in
    subst (λ (one : NodeBody). BodyClaim one) (sym rolled)
    (seen ∙ ap (λ all. written.Map all) (all_itself pair_seen (λ pair. pair.itself) pairs parts))

node_claim :
    (place : Place) (one : NodeBody) → BodyClaim one →
    NodeClaim (record { place = place; body = one })
node_claim place one claim =
    let node : Node = record { place = place; body = one } in
    let seen : (node_seen node).itself ≡ record { place = place; body = (body_seen one).itself } =
    search (rules, the_lemmas) in
    seen ∙ ap (λ body. record { place = place; body = body }) claim

pair_claim :
    (key : List ℕ) (key_place : Place) (one : Node) → NodeClaim one →
    PairClaim (record { key = key; key_place = key_place; item = one })
pair_claim key key_place one claim =
    let pair : NodePair = record { key = key; key_place = key_place; item = one } in
    let seen :
    (pair_seen pair).itself
    ≡ record { key = key; key_place = key_place; item = (node_seen one).itself } =
    search (rules, the_lemmas) in
    seen ∙ ap (λ item. record { key = key; key_place = key_place; item = item }) claim

-- ---- induction over a node

all_of :
    {X Y : Type 0} (P : Y → Type 0) (f : X → Y) → ((x : X) → P (f x)) → (xs : List X) →
    Each P (map f xs)
all_of P f claims [] = tt
all_of P f claims (x ∷ xs) = (claims x, all_of P f claims xs)

module _ {B N M : Type 0} (f : B → NodeBody) (g : N → Node) (h : M → NodePair)
    (bodies : (b : B) → BodyClaim (f b)) (nodes : (n : N) → NodeClaim (g n))
    (pairs : (m : M) → PairClaim (h m)) where
  parts_of : (x : NodeBody-F B N M) → Parts (map-NodeBody B N M NodeBody Node NodePair f g h x)
  parts_of (Scalar text) = tt
  parts_of (Seq xs) = all_of NodeClaim g nodes xs
  parts_of (Map xs) = all_of PairClaim h pairs xs

  of_body :
      (x : NodeBody-F B N M) →
      BodyClaim (roll-NodeBody (map-NodeBody B N M NodeBody Node NodePair f g h x))
  of_body x = body_claim (map-NodeBody B N M NodeBody Node NodePair f g h x) (parts_of x)

  of_node :
      (x : Node-F B N M) →
      NodeClaim (roll-Node (map-Node B N M NodeBody Node NodePair f g h x))
  of_node x = node_claim x.place (f x.body) (bodies x.body)

  of_pair :
      (x : NodePair-F B N M) →
      PairClaim (roll-NodePair (map-NodePair B N M NodeBody Node NodePair f g h x))
  of_pair x = pair_claim x.key x.key_place (g x.item) (nodes x.item)

pub node_itself : (one : Node) → NodeClaim one
node_itself =
    ind-Node BodyClaim NodeClaim PairClaim
    (λ x y e. subst (λ l. BodyClaim (roll-NodeBody l)) e
    (of_body (λ e. e.0) (λ e. e.0) (λ e. e.0) (λ e. e.1) (λ e. e.1) (λ e. e.1) y))
    (λ x y e. subst (λ l. NodeClaim (roll-Node l)) e
    (of_node (λ e. e.0) (λ e. e.0) (λ e. e.0) (λ e. e.1) (λ e. e.1) (λ e. e.1) y))
    (λ x y e. subst (λ l. PairClaim (roll-NodePair l)) e
    (of_pair (λ e. e.0) (λ e. e.0) (λ e. e.0) (λ e. e.1) (λ e. e.1) (λ e. e.1) y))
