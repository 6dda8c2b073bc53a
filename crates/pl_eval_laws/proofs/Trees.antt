-- What holds of all origins of a tree, of the calls that its mappings would be, and of what its
-- scalars and keys say, by its parts.
use Rattle.std.proofs.Common.{◌≡◌, ℕ, ℤ, Bool, Option, Some, None, List, [], ◌∷◌, map, sym, subst}
use Rattle.std.proofs.Common.{rules}
use Rattle.std.specs.Prelude.{codes}
use Rattle.std.specs.List.{AllByRecursion as Each}
use Rattle.pl_base.specs.declared.origin.Origin.{Origin}
use Rattle.pl_base.specs.declared.place.Place.{Place}
use Rattle.pl_base.specs.declared.value.Value.{Value, out-Value, roll-Value, the_lemmas}
use Rattle.pl_base.specs.declared.value.Value.TheVariants as value
use Rattle.pl_base.specs.declared.value.Value.TheOpen.{Null, Bool as Truth, Number}
use Rattle.pl_base.specs.declared.value.Value.TheOpen.{Version, Str, Array, Object}
use Rattle.pl_base.specs.declared.value.MarkedNode.{MarkedNode}
use Rattle.pl_base.specs.declared.value.MarkedPair.{MarkedPair}
use Rattle.pl_eval_laws.specs.Marks.{Said, key as key_said, scalar, Mark, Marks, said_at}
use Rattle.pl_eval_laws.specs.Marks.{together as marks_together, marks_of, marks_in, IsTold}
use Rattle.pl_eval_laws.specs.Marks.{IsOfFiles}
use Rattle.pl_eval_laws.specs.Trees.{Origins, together, origins_of, origins_below, origins_in}
use Rattle.pl_eval_laws.proofs.Leads.{Opened, lead, led_by, head_in, head_by, head_of, leads_of}
use Rattle.pl_eval_laws.proofs.Leads.{leads_below, leads_in, node_leads, pair_leads, layer_leads}
use Rattle.pl_eval_laws.proofs.Leads.{opened_leads, opened_is, rolled, Head, Lead, Leads}
use Rattle.pl_eval_laws.proofs.Leads.{together as leads_together, atom_by, atom_of}
use Rattle.pl_eval_laws.proofs.Marks.{marks_below, node_marks, pair_marks}
use Rattle.pl_eval_laws.proofs.Marks.{opened_marks, layer_marks}
use Rattle.pl_eval_laws.proofs.Lists.{Has, each_append, each_front, each_back, each_implies}
use Rattle.pl_eval_laws.proofs.Lists.{each_of}

-- ---- the origins of a tree, by those of its parts

abbrev opened_origins : Opened → Origins
opened_origins (Array items) = together (map origins_of items)
opened_origins (Object pairs) = together (map origins_in pairs)
opened_origins atom = []

node_origins :
    (origin : Origin) (one : Value) →
    origins_of (record { origin = origin; value = one }) ≡ origin ∷ origins_below one
unfolding origins_of origins_below
node_origins origin one = search (rules, the_lemmas)

pair_origins :
    (key : List ℕ) (key_origin : Origin) (item : MarkedNode) →
    origins_in (record { key = key; key_origin = key_origin; item = item })
    ≡ key_origin ∷ origins_of item
unfolding origins_in origins_of
pair_origins key key_origin item = search (rules, the_lemmas)

layer_origins : (layer : Opened) → origins_below (roll-Value layer) ≡ opened_origins layer
unfolding origins_of origins_below origins_in
layer_origins Null = search (rules, the_lemmas)
layer_origins (Truth truth) = search (rules, the_lemmas)
layer_origins (Number number) = search (rules, the_lemmas)
layer_origins (Version segments) = search (rules, the_lemmas)
layer_origins (Str text) = search (rules, the_lemmas)
layer_origins (Array items) = search (rules, the_lemmas)
layer_origins (Object pairs) = search (rules, the_lemmas)

-- ---- what is asked of a tree: of each origin, of what its scalars and keys say where they are
-- written, and of an item that calls, where its path is written: of its place, of the path's, and
-- of the path

pub record Asked : Type 1 where
  pub own : Origin → Type 0
  pub says : Place → Said → Type 0
  pub calls : Place → Place → Value → Type 0

-- what is asked of a key or a scalar that says so
abbrev pub Told : Asked → Origin → Said → Type 0
Told P = IsTold P.says

abbrev pub Marked : Asked → Mark → Type 0
Marked P one = Told P one.origin one.said

abbrev pub Atom : Asked → Origin → Option Value → Type 0
Atom P origin atom = Has (λ one. Told P origin (scalar one)) atom

-- of origins alone
abbrev pub only : (Origin → Type 0) → Asked
only own = record {
  own = own;
  says = λ place said. Unit {0};
  calls = λ at from path. Unit {0};
}

-- what asks nothing
abbrev pub Any : Asked
Any = only (λ origin. Unit {0})

-- ---- a predicate of all origins, and one of the calls that the mappings would be

-- what is asked of an item whose path comes from there
abbrev pub Calling : Asked → Origin → Origin → Value → Type 0
Calling L item path one = Each IsOfFiles path.crossings → L.calls item.source path.source one

-- a mapping calls whose first key is `template`, and whose value under it is an atom
abbrev pub Begun : Asked → Origin → Head → Type 0
Begun L item head = head.key ≡ codes "template" → Has (Calling L item head.path) head.atom

abbrev pub Leading : Asked → Origin → Head → Type 0
Leading L item head = L.own (lead item head.path) × Begun L item head

abbrev pub IsLed : Asked → Lead → Type 0
IsLed L one = Leading L one.item one.head

unfoldable pub NodeFrom : Asked → Asked → MarkedNode → Type 0
NodeFrom P L node =
    Each P.own (origins_of node)
    × (Each (IsLed L) (leads_of node) × Each (Marked P) (marks_of node))

unfoldable pub ValueFrom : Asked → Asked → Value → Type 0
ValueFrom P L one =
    Each P.own (origins_below one)
    × (Each (IsLed L) (leads_below one) × Each (Marked P) (marks_below one))

unfoldable pub PairFrom : Asked → Asked → MarkedPair → Type 0
PairFrom P L pair =
    Each P.own (origins_in pair)
    × (Each (IsLed L) (leads_in pair) × Each (Marked P) (marks_in pair))

abbrev pub OpenedFrom : Asked → Asked → Opened → Type 0
OpenedFrom P L (Array items) = Each (NodeFrom P L) items
OpenedFrom P L (Object pairs) = Each (PairFrom P L) pairs
OpenedFrom P L atom = Unit {0}

-- the call that a node would be, where it is a mapping
abbrev pub Led : Asked → Origin → Option Head → Type 0
Led L origin head = Has (Leading L origin) head

-- where a mapping's first value comes from
abbrev pub HeadOwn : Asked → Head → Type 0
HeadOwn P head = P.own head.path

leads_from :
    {X : Type 0} (f : X → Leads) (xs : List X) (Q : Lead → Type 0) →
    Each (λ x. Each Q (f x)) xs → Each Q (leads_together (map f xs))
leads_from f [] Q all = tt
leads_from f (x ∷ xs) Q all =
    each_append Q (f x) (leads_together (map f xs)) all.0 (leads_from f xs Q all.1)

leads_apart :
    {X : Type 0} (f : X → Leads) (xs : List X) (Q : Lead → Type 0) →
    Each Q (leads_together (map f xs)) → Each (λ x. Each Q (f x)) xs
leads_apart f [] Q all = tt
leads_apart f (x ∷ xs) Q all = (
  each_front Q (f x) (leads_together (map f xs)) all,
  leads_apart f xs Q (each_back Q (f x) (leads_together (map f xs)) all),
)

marks_from :
    {X : Type 0} (f : X → Marks) (xs : List X) (Q : Mark → Type 0) →
    Each (λ x. Each Q (f x)) xs → Each Q (marks_together (map f xs))
marks_from f [] Q all = tt
marks_from f (x ∷ xs) Q all =
    each_append Q (f x) (marks_together (map f xs)) all.0 (marks_from f xs Q all.1)

marks_apart :
    {X : Type 0} (f : X → Marks) (xs : List X) (Q : Mark → Type 0) →
    Each Q (marks_together (map f xs)) → Each (λ x. Each Q (f x)) xs
marks_apart f [] Q all = tt
marks_apart f (x ∷ xs) Q all = (
  each_front Q (f x) (marks_together (map f xs)) all,
  marks_apart f xs Q (each_back Q (f x) (marks_together (map f xs)) all),
)

module _ (P : Origin → Type 0) where
  together_from :
      {X : Type 0} (f : X → Origins) (xs : List X) → Each (λ x. Each P (f x)) xs →
      Each P (together (map f xs))
  together_from f [] all = tt
  together_from f (x ∷ xs) all =
      each_append P (f x) (together (map f xs)) all.0 (together_from f xs all.1)

  apart_from :
      {X : Type 0} (f : X → Origins) (xs : List X) → Each P (together (map f xs)) →
      Each (λ x. Each P (f x)) xs
  apart_from f [] all = tt
  apart_from f (x ∷ xs) all = (
    each_front P (f x) (together (map f xs)) all,
    apart_from f xs (each_back P (f x) (together (map f xs)) all),
  )

module _ (P : Asked) (origin : Origin) where
  led_listed : (head : Option Head) → Led P origin head → Each (IsLed P) (led_by origin head)
  led_listed None led = tt
  led_listed (Some head) led = (led, tt)

  listed_led : (head : Option Head) → Each (IsLed P) (led_by origin head) → Led P origin head
  listed_led None all = tt
  listed_led (Some head) all = all.0

  atom_listed : (atom : Option Value) → Atom P origin atom → Each (Marked P) (said_at origin atom)
  atom_listed None told = tt
  atom_listed (Some one) told = (told, tt)

  listed_atom : (atom : Option Value) → Each (Marked P) (said_at origin atom) → Atom P origin atom
  listed_atom None all = tt
  listed_atom (Some one) all = all.0

thrice :
    {X : Type 0} (A B C : X → Type 0) (xs : List X) → Each A xs → Each B xs → Each C xs →
    Each (λ x. A x × (B x × C x)) xs
thrice A B C [] left middle right = tt
thrice A B C (x ∷ xs) left middle right =
    ((left.0, (middle.0, right.0)), thrice A B C xs left.1 middle.1 right.1)

module _ {X : Type 0} (A B C : X → Type 0) where
  abbrev All : X → Type 0
  All x = A x × (B x × C x)

  lefts : (xs : List X) → Each All xs → Each A xs
  lefts = each_implies All A (λ x all. all.0)

  middles : (xs : List X) → Each All xs → Each B xs
  middles = each_implies All B (λ x all. all.1.0)

  rights : (xs : List X) → Each All xs → Each C xs
  rights = each_implies All C (λ x all. all.1.1)

module _ (P L : Asked) where
  -- ---- a tree from its parts

  pub node_from :
      (origin : Origin) (one : Value) → P.own origin → Atom P origin (atom_of one) →
      ValueFrom P L one → Led L origin (head_of one) →
      NodeFrom P L (record { origin = origin; value = one })
  unfolding NodeFrom ValueFrom
  node_from origin one own told below led = (
    subst (Each P.own) (sym (node_origins origin one)) (own, below.0),
    (
      subst (Each (IsLed L)) (sym (node_leads origin one))
          (each_append (IsLed L) (led_by origin (head_of one)) (leads_below one)
          (led_listed L origin (head_of one) led) below.1.0),
      subst (Each (Marked P)) (sym (node_marks origin one))
          (each_append (Marked P) (said_at origin (atom_of one)) (marks_below one)
          (atom_listed P origin (atom_of one) told) below.1.1),
    ),
  )

  pub pair_from :
      (key : List ℕ) (key_origin : Origin) (item : MarkedNode) → P.own key_origin →
      Told P key_origin (key_said key) → NodeFrom P L item →
      PairFrom P L (record { key = key; key_origin = key_origin; item = item })
  unfolding NodeFrom PairFrom
  pair_from key key_origin item own told below = (
    subst (Each P.own) (sym (pair_origins key key_origin item)) (own, below.0),
    (
      subst (Each (IsLed L)) (sym (pair_leads key key_origin item)) below.1.0,
      subst (Each (Marked P)) (sym (pair_marks key key_origin item)) (told, below.1.1),
    ),
  )

  pub layer_from : (layer : Opened) → OpenedFrom P L layer → ValueFrom P L (roll-Value layer)
  unfolding NodeFrom ValueFrom PairFrom
  layer_from layer parts = (
    subst (Each P.own) (sym (layer_origins layer)) (origins layer parts),
    (
      subst (Each (IsLed L)) (sym (layer_leads layer)) (leads layer parts),
      subst (Each (Marked P)) (sym (layer_marks layer)) (marks layer parts),
    ),
  )
    where
      origins : (layer : Opened) → OpenedFrom P L layer → Each P.own (opened_origins layer)
      origins (Array items) parts =
          together_from P.own origins_of items
          (lefts (λ x. Each P.own (origins_of x)) (λ x. Each (IsLed L) (leads_of x))
          (λ x. Each (Marked P) (marks_of x)) items parts)
      origins (Object pairs) parts =
          together_from P.own origins_in pairs
          (lefts (λ x. Each P.own (origins_in x)) (λ x. Each (IsLed L) (leads_in x))
          (λ x. Each (Marked P) (marks_in x)) pairs parts)
      origins atom parts = tt

      leads : (layer : Opened) → OpenedFrom P L layer → Each (IsLed L) (opened_leads layer)
      leads (Array items) parts =
          leads_from leads_of items (IsLed L)
          (middles (λ x. Each P.own (origins_of x)) (λ x. Each (IsLed L) (leads_of x))
          (λ x. Each (Marked P) (marks_of x)) items parts)
      leads (Object pairs) parts =
          leads_from leads_in pairs (IsLed L)
          (middles (λ x. Each P.own (origins_in x)) (λ x. Each (IsLed L) (leads_in x))
          (λ x. Each (Marked P) (marks_in x)) pairs parts)
      leads atom parts = tt

      marks : (layer : Opened) → OpenedFrom P L layer → Each (Marked P) (opened_marks layer)
      marks (Array items) parts =
          marks_from marks_of items (Marked P)
          (rights (λ x. Each P.own (origins_of x)) (λ x. Each (IsLed L) (leads_of x))
          (λ x. Each (Marked P) (marks_of x)) items parts)
      marks (Object pairs) parts =
          marks_from marks_in pairs (Marked P)
          (rights (λ x. Each P.own (origins_in x)) (λ x. Each (IsLed L) (leads_in x))
          (λ x. Each (Marked P) (marks_in x)) pairs parts)
      marks atom parts = tt

  pub null_from : ValueFrom P L value.Null
  null_from = subst (ValueFrom P L) value.rolls-Null (layer_from Null tt)

  pub truth_from : (truth : Bool) → ValueFrom P L (value.Bool truth)
  truth_from truth = subst (ValueFrom P L) (value.rolls-Bool truth) (layer_from (Truth truth) tt)

  pub number_from : (number : ℤ) → ValueFrom P L (value.Number number)
  number_from number =
      subst (ValueFrom P L) (value.rolls-Number number) (layer_from (Number number) tt)

  pub version_from : (segments : List ℕ) → ValueFrom P L (value.Version segments)
  version_from segments =
      subst (ValueFrom P L) (value.rolls-Version segments) (layer_from (Version segments) tt)

  pub text_from : (text : List ℕ) → ValueFrom P L (value.Str text)
  text_from text = subst (ValueFrom P L) (value.rolls-Str text) (layer_from (Str text) tt)

  pub array_from : (items : List MarkedNode) → Each (NodeFrom P L) items →
      ValueFrom P L (value.Array items)
  array_from items all =
      subst (ValueFrom P L) (value.rolls-Array items) (layer_from (Array items) all)

  pub object_from : (pairs : List MarkedPair) → Each (PairFrom P L) pairs →
      ValueFrom P L (value.Object pairs)
  object_from pairs all =
      subst (ValueFrom P L) (value.rolls-Object pairs) (layer_from (Object pairs) all)

  -- ---- a node from its parts

  module _ (origin : Origin) (own : P.own origin) where
    abbrev Whole : Value → Type 0
    Whole one = NodeFrom P L (record { origin = origin; value = one })

    layer_node : (layer : Opened) → Atom P origin (atom_by layer) → OpenedFrom P L layer →
        Led L origin (head_by layer) → Whole (roll-Value layer)
    layer_node layer told parts led =
        node_from origin (roll-Value layer) own
        (subst (λ (layer : Opened). Atom P origin (atom_by layer)) (sym (opened_is layer)) told)
        (layer_from layer parts)
        (subst (λ (layer : Opened). Led L origin (head_by layer)) (sym (opened_is layer)) led)

    pub null_node : Told P origin (scalar value.Null) → Whole value.Null
    null_node told = subst Whole value.rolls-Null (layer_node Null told tt tt)

    pub truth_node : (truth : Bool) → Told P origin (scalar (value.Bool truth)) →
        Whole (value.Bool truth)
    truth_node truth told =
        subst Whole (value.rolls-Bool truth) (layer_node (Truth truth) told tt tt)

    pub number_node : (number : ℤ) → Told P origin (scalar (value.Number number)) →
        Whole (value.Number number)
    number_node number told =
        subst Whole (value.rolls-Number number) (layer_node (Number number) told tt tt)

    pub version_node : (segments : List ℕ) → Told P origin (scalar (value.Version segments)) →
        Whole (value.Version segments)
    version_node segments told =
        subst Whole (value.rolls-Version segments) (layer_node (Version segments) told tt tt)

    pub text_node : (text : List ℕ) → Told P origin (scalar (value.Str text)) →
        Whole (value.Str text)
    text_node text told = subst Whole (value.rolls-Str text) (layer_node (Str text) told tt tt)

    pub array_node : (items : List MarkedNode) → Each (NodeFrom P L) items →
        Whole (value.Array items)
    array_node items all =
        subst Whole (value.rolls-Array items) (layer_node (Array items) tt all tt)

    pub object_node : (pairs : List MarkedPair) → Each (PairFrom P L) pairs →
        Led L origin (head_in pairs) → Whole (value.Object pairs)
    object_node pairs all led =
        subst Whole (value.rolls-Object pairs) (layer_node (Object pairs) tt all led)

  -- ---- the parts of a tree

  pub node_parts : (node : MarkedNode) → NodeFrom P L node →
      P.own node.origin × ValueFrom P L node.value
  unfolding NodeFrom ValueFrom
  node_parts node all =
      let own = subst (Each P.own) (node_origins node.origin node.value) all.0 in
      let below = subst (Each (IsLed L)) (node_leads node.origin node.value) all.1.0 in
      let told = subst (Each (Marked P)) (node_marks node.origin node.value) all.1.1 in (
        own.0,
        (
          own.1,
          (
            each_back (IsLed L) (led_by node.origin (head_of node.value)) (leads_below node.value)
                below,
            each_back (Marked P) (said_at node.origin (atom_of node.value))
                (marks_below node.value) told,
          ),
        ),
      )

  pub node_led : (node : MarkedNode) → NodeFrom P L node → Led L node.origin (head_of node.value)
  unfolding NodeFrom
  node_led node all =
      listed_led L node.origin (head_of node.value)
      (each_front (IsLed L) (led_by node.origin (head_of node.value)) (leads_below node.value)
      (subst (Each (IsLed L)) (node_leads node.origin node.value) all.1.0))

  -- what a scalar says
  pub node_told : (node : MarkedNode) → NodeFrom P L node → Atom P node.origin (atom_of node.value)
  unfolding NodeFrom
  node_told node all =
      listed_atom P node.origin (atom_of node.value)
      (each_front (Marked P) (said_at node.origin (atom_of node.value)) (marks_below node.value)
      (subst (Each (Marked P)) (node_marks node.origin node.value) all.1.1))

  pub pair_parts : (pair : MarkedPair) → PairFrom P L pair →
      P.own pair.key_origin × NodeFrom P L pair.item
  unfolding NodeFrom PairFrom
  pair_parts pair all =
      let own = subst (Each P.own) (pair_origins pair.key pair.key_origin pair.item) all.0 in
      let is = pair_marks pair.key pair.key_origin pair.item in
      let told = subst (Each (Marked P)) is all.1.1 in (
        own.0,
        (
          own.1,
          (
            subst (Each (IsLed L)) (pair_leads pair.key pair.key_origin pair.item) all.1.0,
            told.1,
          ),
        ),
      )

  -- what a key says
  pub pair_told : (pair : MarkedPair) → PairFrom P L pair →
      Told P pair.key_origin (key_said pair.key)
  unfolding PairFrom
  pair_told pair all =
      (subst (Each (Marked P)) (pair_marks pair.key pair.key_origin pair.item) all.1.1).0

  layer_parts : (layer : Opened) → ValueFrom P L (roll-Value layer) → OpenedFrom P L layer
  unfolding NodeFrom ValueFrom PairFrom
  layer_parts layer all =
      by layer (subst (Each P.own) (layer_origins layer) all.0)
      (subst (Each (IsLed L)) (layer_leads layer) all.1.0)
      (subst (Each (Marked P)) (layer_marks layer) all.1.1)
    where
      by : (layer : Opened) → Each P.own (opened_origins layer) →
          Each (IsLed L) (opened_leads layer) →
          Each (Marked P) (opened_marks layer) → OpenedFrom P L layer
      by (Array items) origins leads marks =
          thrice (λ x. Each P.own (origins_of x)) (λ x. Each (IsLed L) (leads_of x))
          (λ x. Each (Marked P) (marks_of x)) items
          (apart_from P.own origins_of items origins) (leads_apart leads_of items (IsLed L) leads)
          (marks_apart marks_of items (Marked P) marks)
      by (Object pairs) origins leads marks =
          thrice (λ x. Each P.own (origins_in x)) (λ x. Each (IsLed L) (leads_in x))
          (λ x. Each (Marked P) (marks_in x)) pairs
          (apart_from P.own origins_in pairs origins) (leads_apart leads_in pairs (IsLed L) leads)
          (marks_apart marks_in pairs (Marked P) marks)
      by atom origins leads marks = tt

  pub value_parts : (one : Value) → ValueFrom P L one → OpenedFrom P L (out-Value one)
  value_parts one all =
      layer_parts (out-Value one) (subst (ValueFrom P L) (sym (rolled one)) all)

  pub first_from : (pairs : List MarkedPair) → Each (PairFrom P L) pairs →
      Has (HeadOwn P) (head_in pairs)
  first_from [] all = tt
  first_from (pair ∷ pairs) all = (node_parts pair.item (pair_parts pair all.0).1).0

  head_within : (layer : Opened) → OpenedFrom P L layer → Has (HeadOwn P) (head_by layer)
  head_within (Object pairs) all = first_from pairs all
  head_within atom all = tt

  -- the first value of a mapping
  pub head_from : (one : Value) → ValueFrom P L one → Has (HeadOwn P) (head_of one)
  head_from one all = head_within (out-Value one) (value_parts one all)

pub led_from :
    (P L : Asked) (origin : Origin) →
    ((path : Origin) → P.own path → L.own (lead origin path)) →
    (head : Option Head) → Has (HeadOwn P) head → Has (Begun L origin) head → Led L origin head
led_from P L origin leads None has begun = tt
led_from P L origin leads (Some head) has begun = (leads head.path has, begun)

-- what is asked of a call with another's words
pub begun_implies :
    (L M : Asked) (item at : Origin) (key : List ℕ) (path from : Origin) (atom : Option Value) →
    ((one : Value) → Calling L item path one → Calling M at from one) →
    Begun L item (record { key = key; path = path; atom = atom }) →
    Begun M at (record { key = key; path = from; atom = atom })
begun_implies L M item at key path from None calls begun is = tt
begun_implies L M item at key path from (Some one) calls begun is = calls one (begun is)

-- where nothing is asked
pub nothing_led : (leads : Leads) → Each (IsLed Any) leads
nothing_led =
    each_of (IsLed Any) (λ one. (tt, λ is. nothing one.item one.head.path one.head.atom))
  where
    nothing : (item path : Origin) (atom : Option Value) → Has (Calling Any item path) atom
    nothing item path None = tt
    nothing item path (Some one) = λ files. tt

-- ---- other predicates

module _ (P Q L M : Asked) (origins : (origin : Origin) → P.own origin → Q.own origin)
    (leads : (origin : Origin) → L.own origin → M.own origin)
    (calls : (item path : Origin) (one : Value) → Calling L item path one → Calling M item path one)
    (says : (origin : Origin) (said : Said) → Told P origin said → Told Q origin said) where
  led_implies : (one : Lead) → IsLed L one → IsLed M one
  led_implies one led = (
    leads (lead one.item one.head.path) led.0,
    begun_implies L M one.item one.item one.head.key one.head.path one.head.path one.head.atom
        (calls one.item one.head.path) led.1,
  )

  pub node_implies : (node : MarkedNode) → NodeFrom P L node → NodeFrom Q M node
  unfolding NodeFrom
  node_implies node all = (
    each_implies P.own Q.own origins _ all.0,
    (
      each_implies (IsLed L) (IsLed M) led_implies _ all.1.0,
      each_implies (Marked P) (Marked Q) (λ one. says one.origin one.said) _ all.1.1,
    ),
  )

  pub pair_implies : (pair : MarkedPair) → PairFrom P L pair → PairFrom Q M pair
  unfolding PairFrom
  pair_implies pair all = (
    each_implies P.own Q.own origins _ all.0,
    (
      each_implies (IsLed L) (IsLed M) led_implies _ all.1.0,
      each_implies (Marked P) (Marked Q) (λ one. says one.origin one.said) _ all.1.1,
    ),
  )
