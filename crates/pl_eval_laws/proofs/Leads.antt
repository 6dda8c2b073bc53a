-- The calls that the mappings of a tree of values would be: a call has its mapping's place, and the
-- borders that the mapping's first value crossed, and its first key and value are told with it.
use Rattle.std.proofs.Common.{◌≡◌, ℕ, Option, Some, None, List, [], ◌∷◌, ◌++◌, map, sym}
use Rattle.std.proofs.Common.{ap, refl, ◌∙◌, rules}
use Rattle.pl_base.specs.declared.origin.Origin.{Origin}
use Rattle.pl_base.specs.declared.value.Value.{Value, out-Value, roll-Value, fold-Value, the_lemmas}
use Rattle.pl_base.specs.declared.value.Value.TheVariants as value
use Rattle.pl_base.specs.declared.value.Value.TheOpen.{Value-F, MarkedNode-F, MarkedPair-F}
use Rattle.pl_base.specs.declared.value.Value.TheOpen.{Null, Bool as Truth, Number, Version, Str}
use Rattle.pl_base.specs.declared.value.Value.TheOpen.{Array, Object}
use Rattle.pl_base.specs.declared.value.MarkedNode.{MarkedNode, fold-MarkedNode}
use Rattle.pl_base.specs.declared.value.MarkedPair.{MarkedPair, fold-MarkedPair}

abbrev pub Opened : Type 0
Opened = Value-F Value MarkedNode MarkedPair

abbrev pub lead : Origin → Origin → Origin
lead item path = record { source = item.source; crossings = path.crossings }

-- ---- a layer's own atom

abbrev pub atom_by : Opened → Option Value
atom_by (Array items) = None
atom_by (Object pairs) = None
atom_by Null = Some value.Null
atom_by (Truth truth) = Some (value.Bool truth)
atom_by (Number number) = Some (value.Number number)
atom_by (Version segments) = Some (value.Version segments)
atom_by (Str text) = Some (value.Str text)

abbrev pub atom_of : Value → Option Value
atom_of one = atom_by (out-Value one)

-- ---- a mapping's first key, where its value comes from, and that value where it is an atom

pub record Head : Type 0 where
  pub key : List ℕ
  pub path : Origin
  pub atom : Option Value

abbrev pub head_at : MarkedPair → Head
head_at pair = record { key = pair.key; path = pair.item.origin; atom = atom_of pair.item.value }

abbrev pub head_in : List MarkedPair → Option Head
head_in [] = None
head_in (pair ∷ pairs) = Some (head_at pair)

abbrev pub head_by : Opened → Option Head
head_by (Object pairs) = head_in pairs
head_by other = None

abbrev pub head_of : Value → Option Head
head_of one = head_by (out-Value one)

-- ---- all of a tree, in one fold

-- the call that a mapping would be
pub record Lead : Type 0 where
  pub item : Origin
  pub head : Head

abbrev pub Leads : Type 0
Leads = List Lead

-- lists, one behind the other
abbrev pub together : List Leads → Leads
together [] = []
together (first ∷ rest) = first ++ together rest

pub record BelowSeen : Type 0 where
  pub head : Option Head
  pub atom : Option Value
  pub leads : Leads

pub record NodeSeen : Type 0 where
  pub own : Origin
  pub atom : Option Value
  pub leads : Leads

pub record PairSeen : Type 0 where
  pub key : List ℕ
  pub item : NodeSeen

abbrev pub items_leads : List NodeSeen → Leads
items_leads [] = []
items_leads (first ∷ rest) = first.leads ++ items_leads rest

abbrev pub pairs_leads : List PairSeen → Leads
pairs_leads [] = []
pairs_leads (first ∷ rest) = first.item.leads ++ pairs_leads rest

abbrev head_seen : List ℕ → NodeSeen → Head
head_seen key item = record { key = key; path = item.own; atom = item.atom }

abbrev pub first_head : List PairSeen → Option Head
first_head [] = None
first_head (first ∷ rest) = Some (head_seen first.key first.item)

abbrev pub led_by : Origin → Option Head → Leads
led_by origin None = []
led_by origin (Some head) = record { item = origin; head = head } ∷ []

abbrev alone : Value → BelowSeen
alone one = record { head = None; atom = Some one; leads = [] }

abbrev pub value_step : Value-F BelowSeen NodeSeen PairSeen → BelowSeen
value_step (Array items) = record { head = None; atom = None; leads = items_leads items }
value_step (Object pairs) =
    record { head = first_head pairs; atom = None; leads = pairs_leads pairs }
value_step Null = alone value.Null
value_step (Truth truth) = alone (value.Bool truth)
value_step (Number number) = alone (value.Number number)
value_step (Version segments) = alone (value.Version segments)
value_step (Str text) = alone (value.Str text)

abbrev pub node_step : MarkedNode-F BelowSeen NodeSeen PairSeen → NodeSeen
node_step node = record {
  own = node.origin;
  atom = node.value.atom;
  leads = led_by node.origin node.value.head ++ node.value.leads;
}

abbrev pub pair_step : MarkedPair-F BelowSeen NodeSeen PairSeen → PairSeen
pair_step pair = record { key = pair.key; item = pair.item }

unfoldable pub node_seen : MarkedNode → NodeSeen
node_seen = fold-MarkedNode BelowSeen NodeSeen PairSeen value_step node_step pair_step

unfoldable pub value_seen : Value → BelowSeen
value_seen = fold-Value BelowSeen NodeSeen PairSeen value_step node_step pair_step

unfoldable pub pair_seen : MarkedPair → PairSeen
pair_seen = fold-MarkedPair BelowSeen NodeSeen PairSeen value_step node_step pair_step

abbrev pub leads_of : MarkedNode → Leads
leads_of node = (node_seen node).leads

abbrev pub leads_below : Value → Leads
leads_below one = (value_seen one).leads

abbrev pub leads_in : MarkedPair → Leads
leads_in pair = (pair_seen pair).item.leads

-- ---- by the parts of a tree

node_is :
    (origin : Origin) (one : Value) →
    node_seen (record { origin = origin; value = one })
    ≡ node_step (record { origin = origin; value = value_seen one })
unfolding node_seen value_seen
node_is origin one = search (rules, the_lemmas)

pair_is :
    (key : List ℕ) (key_origin : Origin) (item : MarkedNode) →
    pair_seen (record { key = key; key_origin = key_origin; item = item })
    ≡ record { key = key; item = node_seen item }
unfolding node_seen pair_seen
pair_is key key_origin item = search (rules, the_lemmas)

abbrev layer_seen : Opened → BelowSeen
layer_seen (Array items) =
    record { head = None; atom = None; leads = items_leads (map node_seen items) }
layer_seen (Object pairs) = record {
  head = first_head (map pair_seen pairs);
  atom = None;
  leads = pairs_leads (map pair_seen pairs);
}
layer_seen Null = alone value.Null
layer_seen (Truth truth) = alone (value.Bool truth)
layer_seen (Number number) = alone (value.Number number)
layer_seen (Version segments) = alone (value.Version segments)
layer_seen (Str text) = alone (value.Str text)

layer_is : (layer : Opened) → value_seen (roll-Value layer) ≡ layer_seen layer
unfolding node_seen value_seen pair_seen
layer_is Null = search (rules, the_lemmas)
layer_is (Truth truth) = search (rules, the_lemmas)
layer_is (Number number) = search (rules, the_lemmas)
layer_is (Version segments) = search (rules, the_lemmas)
layer_is (Str text) = search (rules, the_lemmas)
layer_is (Array items) = search (rules, the_lemmas)
layer_is (Object pairs) = search (rules, the_lemmas)

pub rolled : (one : Value) → roll-Value (out-Value one) ≡ one
rolled one = search (rules, the_lemmas)

pub opened_is : (layer : Opened) → out-Value (roll-Value layer) ≡ layer
opened_is layer = search (rules, the_lemmas)

pub opened_array : (items : List MarkedNode) → out-Value (value.Array items) ≡ Array items
opened_array items = search (rules, the_lemmas)

pub opened_object : (pairs : List MarkedPair) → out-Value (value.Object pairs) ≡ Object pairs
opened_object pairs = search (rules, the_lemmas)

pub object_head : (pairs : List MarkedPair) → head_of (value.Object pairs) ≡ head_in pairs
object_head pairs = ap head_by (opened_object pairs)

pub array_head : (items : List MarkedNode) → head_of (value.Array items) ≡ None
array_head items = ap head_by (opened_array items)

layer_atom : (layer : Opened) → (layer_seen layer).atom ≡ atom_by layer
layer_atom Null = refl
layer_atom (Truth truth) = refl
layer_atom (Number number) = refl
layer_atom (Version segments) = refl
layer_atom (Str text) = refl
layer_atom (Array items) = refl
layer_atom (Object pairs) = refl

atom_is : (one : Value) → (value_seen one).atom ≡ atom_of one
atom_is one =
    ap (λ (one : Value). (value_seen one).atom) (sym (rolled one))
    ∙ (ap (λ (seen : BelowSeen). seen.atom) (layer_is (out-Value one))
    ∙ layer_atom (out-Value one))

first_is : (pairs : List MarkedPair) → first_head (map pair_seen pairs) ≡ head_in pairs
first_is [] = refl
first_is (pair ∷ pairs) =
    ap (λ (seen : PairSeen). Some (head_seen seen.key seen.item))
    (pair_is pair.key pair.key_origin pair.item)
    ∙ (ap (λ (seen : NodeSeen). Some (head_seen pair.key seen))
    (node_is pair.item.origin pair.item.value)
    ∙ ap (λ (atom : Option Value). Some (record {
      key = pair.key;
      path = pair.item.origin;
      atom = atom;
    })) (atom_is pair.item.value))

layer_head : (layer : Opened) → (layer_seen layer).head ≡ head_by layer
layer_head Null = refl
layer_head (Truth truth) = refl
layer_head (Number number) = refl
layer_head (Version segments) = refl
layer_head (Str text) = refl
layer_head (Array items) = refl
layer_head (Object pairs) = first_is pairs

head_is : (one : Value) → (value_seen one).head ≡ head_of one
head_is one =
    ap (λ (one : Value). (value_seen one).head) (sym (rolled one))
    ∙ (ap (λ (seen : BelowSeen). seen.head) (layer_is (out-Value one))
    ∙ layer_head (out-Value one))

pub node_leads :
    (origin : Origin) (one : Value) →
    leads_of (record { origin = origin; value = one })
    ≡ led_by origin (head_of one) ++ leads_below one
node_leads origin one =
    ap (λ (seen : NodeSeen). seen.leads) (node_is origin one)
    ∙ ap (λ head. led_by origin head ++ leads_below one) (head_is one)

pub pair_leads :
    (key : List ℕ) (key_origin : Origin) (item : MarkedNode) →
    leads_in (record { key = key; key_origin = key_origin; item = item }) ≡ leads_of item
pair_leads key key_origin item =
    ap (λ (seen : PairSeen). seen.item.leads) (pair_is key key_origin item)

nodes_together :
    (items : List MarkedNode) → items_leads (map node_seen items) ≡ together (map leads_of items)
nodes_together [] = refl
nodes_together (item ∷ items) = ap (λ rest. leads_of item ++ rest) (nodes_together items)

pairs_together :
    (pairs : List MarkedPair) → pairs_leads (map pair_seen pairs) ≡ together (map leads_in pairs)
pairs_together [] = refl
pairs_together (pair ∷ pairs) = ap (λ rest. leads_in pair ++ rest) (pairs_together pairs)

abbrev pub opened_leads : Opened → Leads
opened_leads (Array items) = together (map leads_of items)
opened_leads (Object pairs) = together (map leads_in pairs)
opened_leads atom = []

seen_leads : (layer : Opened) → (layer_seen layer).leads ≡ opened_leads layer
seen_leads Null = refl
seen_leads (Truth truth) = refl
seen_leads (Number number) = refl
seen_leads (Version segments) = refl
seen_leads (Str text) = refl
seen_leads (Array items) = nodes_together items
seen_leads (Object pairs) = pairs_together pairs

pub layer_leads : (layer : Opened) → leads_below (roll-Value layer) ≡ opened_leads layer
layer_leads layer = ap (λ (seen : BelowSeen). seen.leads) (layer_is layer) ∙ seen_leads layer
