-- A part of a tree as it is seen is itself.
use Rattle.std.proofs.Common.{◌≡◌, ℕ, List, [], ◌∷◌, map, refl, ap, ap₂, sym, ◌∙◌, subst, rules}
use Rattle.std.specs.List.{AllByRecursion as Each}
use Rattle.pl_base.specs.declared.value.Value.{Value, roll-Value, map-Value, the_lemmas}
use Rattle.pl_base.specs.declared.value.Value.TheVariants as value
use Rattle.pl_base.specs.declared.value.Value.TheOpen.{Value-F, MarkedNode-F, MarkedPair-F, Null}
use Rattle.pl_base.specs.declared.value.Value.TheOpen.{Bool as Truth, Number, Version, Str, Array}
use Rattle.pl_base.specs.declared.value.Value.TheOpen.{Object}
use Rattle.pl_base.specs.declared.value.MarkedNode.{MarkedNode, roll-MarkedNode, map-MarkedNode}
use Rattle.pl_base.specs.declared.value.MarkedNode.{ind-MarkedNode}
use Rattle.pl_base.specs.declared.value.MarkedPair.{MarkedPair, roll-MarkedPair, map-MarkedPair}
use Rattle.pl_base.specs.declared.origin.Origin.{Origin}
use Rattle.pl_recursion.specs.Settling.{NodeSeen, PairSeen, node_seen, value_seen, pair_seen}

abbrev ValueClaim : Value → Type 0
ValueClaim one = (value_seen one).itself ≡ one

abbrev NodeClaim : MarkedNode → Type 0
NodeClaim one = (node_seen one).itself ≡ one

abbrev PairClaim : MarkedPair → Type 0
PairClaim one = (pair_seen one).itself ≡ one

abbrev Opened : Type 0
Opened = Value-F Value MarkedNode MarkedPair

-- what is claimed of the parts of a layer
abbrev Parts : Opened → Type 0
Parts (Array items) = Each NodeClaim items
Parts (Object pairs) = Each PairClaim pairs
Parts atom = Unit {0}

all_itself :
    {X Y : Type 0} (seen : X → Y) (itself : Y → X) (all : List X) →
    Each (λ one. itself (seen one) ≡ one) all → map itself (map seen all) ≡ all
all_itself seen itself [] claims = refl
all_itself seen itself (one ∷ all) (first, rest) =
    ap₂ (λ one all. one ∷ all) first (all_itself seen itself all rest)

value_claim : (layer : Opened) → Parts layer → ValueClaim (roll-Value layer)
value_claim Null parts = search (rules, the_lemmas)
value_claim (Truth truth) parts = search (rules, the_lemmas)
value_claim (Number number) parts = search (rules, the_lemmas)
value_claim (Version segments) parts = search (rules, the_lemmas)
value_claim (Str text) parts = search (rules, the_lemmas)
value_claim (Array items) parts =
    let seen :
    (value_seen (value.Array items)).itself
    ≡ value.Array (map (λ (node : NodeSeen). node.itself) (map node_seen items)) =
    search (rules, the_lemmas) in
    let rolled : roll-Value (Array items) ≡ value.Array items = search (rules, the_lemmas) in
    subst (λ (one : Value). ValueClaim one) (sym rolled)
    (seen ∙ ap (λ all. value.Array all) (all_itself node_seen (λ node. node.itself) items parts))
value_claim (Object pairs) parts =
    let seen :
    (value_seen (value.Object pairs)).itself
    ≡ value.Object (map (λ (pair : PairSeen). pair.itself) (map pair_seen pairs)) =
    search (rules, the_lemmas) in
    let rolled : roll-Value (Object pairs) ≡ value.Object pairs = search (rules, the_lemmas) in
    subst (λ (one : Value). ValueClaim one) (sym rolled)
    (seen ∙ ap (λ all. value.Object all) (all_itself pair_seen (λ pair. pair.itself) pairs parts))

node_claim :
    (origin : Origin) (one : Value) → ValueClaim one →
    NodeClaim (record { origin = origin; value = one })
node_claim origin one claim =
    let node : MarkedNode = record { origin = origin; value = one } in
    let seen :
    (node_seen node).itself ≡ record { origin = origin; value = (value_seen one).itself } =
    search (rules, the_lemmas) in
    seen ∙ ap (λ value. record { origin = origin; value = value }) claim

pair_claim :
    (key : List ℕ) (key_origin : Origin) (one : MarkedNode) → NodeClaim one →
    PairClaim (record { key = key; key_origin = key_origin; item = one })
pair_claim key key_origin one claim =
    let pair : MarkedPair = record { key = key; key_origin = key_origin; item = one } in
    let seen :
    (pair_seen pair).itself
    ≡ record { key = key; key_origin = key_origin; item = (node_seen one).itself } =
    search (rules, the_lemmas) in
    seen ∙ ap (λ item. record { key = key; key_origin = key_origin; item = item }) claim

-- ---- induction over a value

all_of :
    {X Y : Type 0} (P : Y → Type 0) (f : X → Y) → ((x : X) → P (f x)) → (xs : List X) →
    Each P (map f xs)
all_of P f claims [] = tt
all_of P f claims (x ∷ xs) = (claims x, all_of P f claims xs)

module _ {V N M : Type 0} (f : V → Value) (g : N → MarkedNode) (h : M → MarkedPair)
    (nodes : (n : N) → NodeClaim (g n)) (pairs : (m : M) → PairClaim (h m)) where
  parts_of :
      (x : Value-F V N M) → Parts (map-Value V N M Value MarkedNode MarkedPair f g h x)
  parts_of Null = tt
  parts_of (Truth truth) = tt
  parts_of (Number number) = tt
  parts_of (Version segments) = tt
  parts_of (Str text) = tt
  parts_of (Array xs) = all_of NodeClaim g nodes xs
  parts_of (Object xs) = all_of PairClaim h pairs xs

  of_value :
      (x : Value-F V N M) →
      ValueClaim (roll-Value (map-Value V N M Value MarkedNode MarkedPair f g h x))
  of_value x = value_claim (map-Value V N M Value MarkedNode MarkedPair f g h x) (parts_of x)

  of_node :
      ((v : V) → ValueClaim (f v)) → (x : MarkedNode-F V N M) →
      NodeClaim (roll-MarkedNode (map-MarkedNode V N M Value MarkedNode MarkedPair f g h x))
  of_node values x = node_claim x.origin (f x.value) (values x.value)

  of_pair :
      (x : MarkedPair-F V N M) →
      PairClaim (roll-MarkedPair (map-MarkedPair V N M Value MarkedNode MarkedPair f g h x))
  of_pair x = pair_claim x.key x.key_origin (g x.item) (nodes x.item)

pub node_itself : (one : MarkedNode) → NodeClaim one
node_itself =
    ind-MarkedNode ValueClaim NodeClaim PairClaim
    (λ x y e. subst (λ l. ValueClaim (roll-Value l)) e
    (of_value (λ e. e.0) (λ e. e.0) (λ e. e.0) (λ e. e.1) (λ e. e.1) y))
    (λ x y e. subst (λ l. NodeClaim (roll-MarkedNode l)) e
    (of_node (λ e. e.0) (λ e. e.0) (λ e. e.0) (λ e. e.1) (λ e. e.1) (λ e. e.1) y))
    (λ x y e. subst (λ l. PairClaim (roll-MarkedPair l)) e
    (of_pair (λ e. e.0) (λ e. e.0) (λ e. e.0) (λ e. e.1) (λ e. e.1) y))
