-- What holds of all places of a file's node, and of what is said there, by its parts.
use Rattle.std.proofs.Common.{◌≡◌, ℕ, Bool, true, false, cond, Option, Some, List, []}
use Rattle.std.proofs.Common.{◌∷◌, ◌++◌, map, refl, ap, ap₂, sym, subst, ◌∙◌, rules}
use Rattle.std.specs.Option.{option_map_or, option_map}
use Rattle.std.specs.Prelude.{find, codes}
use Rattle.std.specs.List.{AllByRecursion as Each}
use Rattle.pl_base.specs.declared.place.Place.{Place}
use Rattle.pl_base.specs.declared.node.Node.{Node}
use Rattle.pl_base.specs.declared.node.NodeBody.{NodeBody, out-NodeBody, roll-NodeBody, the_lemmas}
use Rattle.pl_base.specs.declared.node.NodePair.{NodePair}
use Rattle.pl_base.specs.declared.node.NodeBody.TheOpen.{Scalar, Seq, Map}
use Rattle.pl_base.specs.declared.node.NodeBody.TheVariants as written
use Rattle.pl_base.specs.declared.value.Value.{Str}
use Rattle.pl_base.specs.Texts.{is}
use Rattle.pl_params.specs.Declaring.{name_of}
use Rattle.pl_params.specs.Nodes.{text_in, text_of}
use Rattle.pl_template.specs.Cutting.{holds_opening}
use Rattle.pl_recursion.specs.Below.pl_calls.specs.Parts.{Body, body_of}
use Rattle.pl_params.specs.Nodes.{under}
use Rattle.pl_eval_laws.specs.Marks.{Said, key as key_said, scalar}
use Rattle.pl_eval_laws.proofs.Lists.{Has, has_map, each_append, each_found, each_front, each_back}
use Rattle.pl_eval_laws.proofs.Lists.{each_of, each_implies}
use Rattle.pl_origins.specs.Places.{Places, together, places_of, places_below, places_in}
use Rattle.pl_origins.specs.Spots.{Beginning, Written, says, begins, Spot, Spots, BodySpots}
use Rattle.pl_origins.specs.Spots.{NodeSpots, PairSpots, items_together, first_in, IsTextOf}
use Rattle.pl_origins.specs.Spots.{pairs_together, name_in, node_step, pair_step, node_seen}
use Rattle.pl_origins.specs.Spots.{body_seen, pair_seen, spots_of, spot}

abbrev layer_places : Body → Places
layer_places (Scalar text) = []
layer_places (Seq items) = together (map places_of items)
layer_places (Map pairs) = together (map places_in pairs)

node_places :
    (place : Place) (body : NodeBody) →
    places_of (record { place = place; body = body }) ≡ place ∷ places_below body
unfolding places_of places_below
node_places place body = search (rules, the_lemmas)

pair_places :
    (key : List ℕ) (key_place : Place) (item : Node) →
    places_in (record { key = key; key_place = key_place; item = item })
    ≡ key_place ∷ places_of item
unfolding places_in places_of
pair_places key key_place item = search (rules, the_lemmas)

body_places : (layer : Body) → places_below (roll-NodeBody layer) ≡ layer_places layer
unfolding places_of places_below places_in
body_places (Scalar text) = search (rules, the_lemmas)
body_places (Seq items) = search (rules, the_lemmas)
body_places (Map pairs) = search (rules, the_lemmas)

rolled : (body : NodeBody) → roll-NodeBody (out-NodeBody body) ≡ body
rolled body = search (rules, the_lemmas)

-- ---- what is said, by the parts of a node

-- a pair as a mapping may begin with it
abbrev pub beginning_of : NodePair → Beginning
beginning_of pair =
    record { key = pair.key; place = pair.item.place; text = text_of pair.item }

abbrev pub firsts_of : List NodePair → List Written
firsts_of [] = []
firsts_of (pair ∷ pairs) = begins (beginning_of pair) ∷ []

-- what a node of that body says where it stands
abbrev pub said_in : Body → List Written
said_in (Scalar text) = says (scalar (Str text)) ∷ []
said_in (Seq items) = []
said_in (Map pairs) = says (key_said (name_of pairs)) ∷ firsts_of pairs

abbrev spots_in : NodePair → Spots
spots_in pair = (pair_seen pair).spots

node_is :
    (place : Place) (body : NodeBody) →
    node_seen (record { place = place; body = body })
    ≡ node_step (record { place = place; body = body_seen body })
unfolding node_seen body_seen
node_is place body = search (rules, the_lemmas)

pair_is :
    (key : List ℕ) (key_place : Place) (item : Node) →
    pair_seen (record { key = key; key_place = key_place; item = item })
    ≡ pair_step (record { key = key; key_place = key_place; item = node_seen item })
unfolding node_seen pair_seen
pair_is key key_place item = search (rules, the_lemmas)

abbrev layer_seen : Body → BodySpots
layer_seen (Scalar text) =
    record { written = says (scalar (Str text)) ∷ []; text = text; spots = [] }
layer_seen (Seq items) =
    record { written = []; text = []; spots = items_together (map node_seen items) }
layer_seen (Map pairs) = record {
  written = says (key_said (name_in (map pair_seen pairs))) ∷ first_in (map pair_seen pairs);
  text = [];
  spots = pairs_together (map pair_seen pairs);
}

layer_is : (layer : Body) → body_seen (roll-NodeBody layer) ≡ layer_seen layer
unfolding node_seen body_seen pair_seen
layer_is (Scalar text) = search (rules, the_lemmas)
layer_is (Seq items) = search (rules, the_lemmas)
layer_is (Map pairs) = search (rules, the_lemmas)

body_is : (body : NodeBody) → body_seen body ≡ layer_seen (out-NodeBody body)
body_is body = ap body_seen (sym (rolled body)) ∙ layer_is (out-NodeBody body)

layer_text : (layer : Body) → (layer_seen layer).text ≡ text_in layer
layer_text (Scalar text) = refl
layer_text (Seq items) = refl
layer_text (Map pairs) = refl

node_text : (node : Node) → (node_seen node).text ≡ text_of node
node_text node =
    ap (λ (seen : NodeSpots). seen.text) (node_is node.place node.body)
    ∙ (ap (λ (seen : BodySpots). seen.text) (body_is node.body)
    ∙ layer_text (out-NodeBody node.body))

node_place : (node : Node) → (node_seen node).place ≡ node.place
node_place node = ap (λ (seen : NodeSpots). seen.place) (node_is node.place node.body)

pair_key : (pair : NodePair) → (pair_seen pair).begins.key ≡ pair.key
pair_key pair =
    ap (λ (seen : PairSpots). seen.begins.key) (pair_is pair.key pair.key_place pair.item)

pair_text : (pair : NodePair) → (pair_seen pair).begins.text ≡ text_of pair.item
pair_text pair =
    ap (λ (seen : PairSpots). seen.begins.text) (pair_is pair.key pair.key_place pair.item)
    ∙ node_text pair.item

pair_begins : (pair : NodePair) → (pair_seen pair).begins ≡ beginning_of pair
pair_begins pair =
    ap (λ (seen : PairSpots). seen.begins) (pair_is pair.key pair.key_place pair.item)
    ∙ ap₂ (λ (place : Place) (text : List ℕ). record { key = pair.key; place = place; text = text })
    (node_place pair.item) (node_text pair.item)

firsts_are : (pairs : List NodePair) → first_in (map pair_seen pairs) ≡ firsts_of pairs
firsts_are [] = refl
firsts_are (pair ∷ pairs) = ap (λ one. begins one ∷ []) (pair_begins pair)

abbrev found_seen : List NodePair → Option PairSpots
found_seen pairs =
    find (λ (pair : PairSpots). is pair.begins.key (codes "name")) (map pair_seen pairs)

names_are : (pairs : List NodePair) → name_in (map pair_seen pairs) ≡ name_of pairs
unfolding name_in
names_are [] = refl
names_are (pair ∷ pairs) =
    ap (λ name. option_map_or (λ (pair : PairSpots). pair.begins.text)
    (cond (is name (codes "name"))
    (Some (pair_seen pair)) (found_seen pairs)) []) (pair_key pair)
    ∙ by (is pair.key (codes "name")) (names_are pairs)
  where
    by : (b : Bool) →
        option_map_or (λ (pair : PairSpots). pair.begins.text) (found_seen pairs) []
        ≡ option_map_or text_of (option_map (λ (pair : NodePair). pair.item)
        (find (λ (pair : NodePair). is pair.key (codes "name")) pairs)) [] →
        option_map_or (λ (pair : PairSpots). pair.begins.text)
        (cond b (Some (pair_seen pair)) (found_seen pairs)) []
        ≡ option_map_or text_of (option_map (λ (pair : NodePair). pair.item) (cond b (Some pair)
        (find (λ (pair : NodePair). is pair.key (codes "name")) pairs))) []
    by true rest = pair_text pair
    by false rest = rest

layer_says : (layer : Body) → (layer_seen layer).written ≡ said_in layer
layer_says (Scalar text) = refl
layer_says (Seq items) = refl
layer_says (Map pairs) =
    ap₂ (λ (name : List ℕ) (first : List Written). says (key_said name) ∷ first) (names_are pairs)
    (firsts_are pairs)

says_are : (body : NodeBody) → (body_seen body).written ≡ said_in (out-NodeBody body)
says_are body =
    ap (λ (seen : BodySpots). seen.written) (body_is body) ∙ layer_says (out-NodeBody body)

abbrev layer_spots : Body → Spots
layer_spots (Scalar text) = []
layer_spots (Seq items) = items_together (map node_seen items)
layer_spots (Map pairs) = pairs_together (map pair_seen pairs)

spots_by : (layer : Body) → (layer_seen layer).spots ≡ layer_spots layer
spots_by (Scalar text) = refl
spots_by (Seq items) = refl
spots_by (Map pairs) = refl

spots_below : (body : NodeBody) → (body_seen body).spots ≡ layer_spots (out-NodeBody body)
spots_below body =
    ap (λ (seen : BodySpots). seen.spots) (body_is body) ∙ spots_by (out-NodeBody body)

node_spots :
    (place : Place) (body : NodeBody) →
    spots_of (record { place = place; body = body })
    ≡ map (spot place) (said_in (out-NodeBody body)) ++ layer_spots (out-NodeBody body)
node_spots place body =
    ap (λ (seen : NodeSpots). seen.spots) (node_is place body)
    ∙ (ap (λ written. map (spot place) written ++ (body_seen body).spots) (says_are body)
    ∙ ap (λ spots. map (spot place) (said_in (out-NodeBody body)) ++ spots) (spots_below body))

pair_spots :
    (key : List ℕ) (key_place : Place) (item : Node) →
    spots_in (record { key = key; key_place = key_place; item = item })
    ≡ spot key_place (says (key_said key)) ∷ spots_of item
pair_spots key key_place item =
    ap (λ (seen : PairSpots). seen.spots) (pair_is key key_place item)

-- ---- what is known of the places of a file, and of what is said there

pub record Site : Type 1 where
  pub at : Place → Type 0
  pub says : Place → Said → Type 0
  pub begins : Place → Beginning → Type 0

-- the same of each place, whatever is said there
abbrev pub site : (Place → Type 0) → Site
site at = record {
  at = at;
  says = λ place said. Unit {0};
  begins = λ place first. Unit {0};
}

abbrev pub Stood : Site → Place → Written → Type 0
Stood R place (says said) = R.says place said
Stood R place (begins first) = R.begins place first

abbrev pub Spotted : Site → Spot → Type 0
Spotted R one = Stood R one.place one.written

-- an expression stands at a place
pub record Asks (R : Site) (place : Place) : Type 0 where
  pub text : List ℕ
  pub written : Written
  pub is_in : IsTextOf text written
  pub stands : Stood R place written
  pub expression : holds_opening text ≡ true

unfoldable pub NodeIn : Site → Node → Type 0
NodeIn R node = Each R.at (places_of node) × Each (Spotted R) (spots_of node)

unfoldable pub PairIn : Site → NodePair → Type 0
PairIn R pair = Each R.at (places_in pair) × Each (Spotted R) (spots_in pair)

abbrev pub BodyIn : Site → Body → Type 0
BodyIn R (Scalar text) = Unit {0}
BodyIn R (Seq items) = Each (NodeIn R) items
BodyIn R (Map pairs) = Each (PairIn R) pairs

both :
    {X : Type 0} (A B : X → Type 0) (xs : List X) → Each A xs → Each B xs →
    Each (λ x. A x × B x) xs
both A B [] left right = tt
both A B (x ∷ xs) left right = ((left.0, right.0), both A B xs left.1 right.1)

each_said :
    (R : Site) (place : Place) (all : List Written) → Each (Spotted R) (map (spot place) all) →
    Each (Stood R place) all
each_said R place [] stand = tt
each_said R place (one ∷ all) stand = (stand.0, each_said R place all stand.1)

module _ (R : Site) where
  apart_in :
      {X : Type 0} (f : X → Places) (xs : List X) → Each R.at (together (map f xs)) →
      Each (λ x. Each R.at (f x)) xs
  apart_in f [] all = tt
  apart_in f (x ∷ xs) all = (
    each_front R.at (f x) (together (map f xs)) all,
    apart_in f xs (each_back R.at (f x) (together (map f xs)) all),
  )

  items_apart :
      (items : List Node) → Each (Spotted R) (items_together (map node_seen items)) →
      Each (λ item. Each (Spotted R) (spots_of item)) items
  items_apart [] all = tt
  items_apart (item ∷ items) all = (
    each_front (Spotted R) (spots_of item) (items_together (map node_seen items)) all,
    items_apart items
        (each_back (Spotted R) (spots_of item) (items_together (map node_seen items)) all),
  )

  pairs_apart :
      (pairs : List NodePair) → Each (Spotted R) (pairs_together (map pair_seen pairs)) →
      Each (λ pair. Each (Spotted R) (spots_in pair)) pairs
  pairs_apart [] all = tt
  pairs_apart (pair ∷ pairs) all = (
    each_front (Spotted R) (spots_in pair) (pairs_together (map pair_seen pairs)) all,
    pairs_apart pairs
        (each_back (Spotted R) (spots_in pair) (pairs_together (map pair_seen pairs)) all),
  )

  layer_in : (layer : Body) → Each R.at (layer_places layer) → Each (Spotted R) (layer_spots layer)
      →
      BodyIn R layer
  unfolding NodeIn PairIn
  layer_in (Scalar text) all spots = tt
  layer_in (Seq items) all spots =
      both (λ item. Each R.at (places_of item)) (λ item. Each (Spotted R) (spots_of item)) items
      (apart_in places_of items all) (items_apart items spots)
  layer_in (Map pairs) all spots =
      both (λ pair. Each R.at (places_in pair)) (λ pair. Each (Spotted R) (spots_in pair)) pairs
      (apart_in places_in pairs all) (pairs_apart pairs spots)

  pub node_in : (node : Node) → NodeIn R node → R.at node.place × BodyIn R (body_of node)
  unfolding NodeIn
  node_in node all =
      let parts = subst (Each R.at) (node_places node.place node.body) all.0 in
      let below : Each R.at (places_below (roll-NodeBody (out-NodeBody node.body))) =
      subst (λ (body : NodeBody). Each R.at (places_below body)) (sym (rolled node.body))
      parts.1 in (
        parts.0,
        layer_in (out-NodeBody node.body)
            (subst (Each R.at) (body_places (out-NodeBody node.body)) below)
            (each_back (Spotted R) (map (spot node.place) (said_in (out-NodeBody node.body)))
            (layer_spots (out-NodeBody node.body))
            (subst (Each (Spotted R)) (node_spots node.place node.body) all.1)),
      )

  -- what a node says where it stands
  pub node_says : (node : Node) → NodeIn R node → Each (Stood R node.place) (said_in (body_of node))
  unfolding NodeIn
  node_says node all =
      each_said R node.place (said_in (out-NodeBody node.body))
      (each_front (Spotted R) (map (spot node.place) (said_in (out-NodeBody node.body)))
      (layer_spots (out-NodeBody node.body))
      (subst (Each (Spotted R)) (node_spots node.place node.body) all.1))

  pub pair_in : (pair : NodePair) → PairIn R pair → R.at pair.key_place × NodeIn R pair.item
  unfolding NodeIn PairIn
  pair_in pair all =
      let places = subst (Each R.at) (pair_places pair.key pair.key_place pair.item) all.0 in
      let spots = subst (Each (Spotted R)) (pair_spots pair.key pair.key_place pair.item) all.1 in
      (places.0, (places.1, spots.1))

  -- what a key says
  pub pair_says : (pair : NodePair) → PairIn R pair → R.says pair.key_place (key_said pair.key)
  unfolding PairIn
  pair_says pair all =
      (subst (Each (Spotted R)) (pair_spots pair.key pair.key_place pair.item) all.1).0

  pub under_in :
      (key : List ℕ) (pairs : List NodePair) → Each (PairIn R) pairs →
      Has (NodeIn R) (under key pairs)
  under_in key pairs all =
      has_map (PairIn R) (NodeIn R) (λ pair. pair.item) (λ pair within. (pair_in pair within).1)
      (find (λ pair. is pair.key key) pairs)
      (each_found (PairIn R) (λ pair. is pair.key key) pairs all)

  pub anywhere : ((place : Place) → R.at place) →
      ((place : Place) (written : Written) → Stood R place written) →
      (node : Node) → NodeIn R node
  unfolding NodeIn
  anywhere all stands node = (
    each_of R.at all (places_of node),
    each_of (Spotted R) (λ one. stands one.place one.written) (spots_of node),
  )

-- where nothing is asked of what is said
pub nothing_said : (at : Place → Type 0) (place : Place) (written : Written) →
    Stood (site at) place written
nothing_said at place (says said) = tt
nothing_said at place (begins first) = tt

-- ---- and the other way, of places alone: of the parts, so of the node

module _ (A : Place → Type 0) where
  all_spots : (spots : Spots) → Each (Spotted (site A)) spots
  all_spots = each_of (Spotted (site A)) (λ one. nothing_said A one.place one.written)

  together_in :
      {X : Type 0} (f : X → Places) (xs : List X) → Each (λ x. Each A (f x)) xs →
      Each A (together (map f xs))
  together_in f [] all = tt
  together_in f (x ∷ xs) all =
      each_append A (f x) (together (map f xs)) all.0 (together_in f xs all.1)

  layer_made : (layer : Body) → BodyIn (site A) layer → Each A (layer_places layer)
  unfolding NodeIn PairIn
  layer_made (Scalar text) all = tt
  layer_made (Seq items) all =
      together_in places_of items
      (each_implies (NodeIn (site A)) (λ item. Each A (places_of item)) (λ item one. one.0) items
      all)
  layer_made (Map pairs) all =
      together_in places_in pairs
      (each_implies (PairIn (site A)) (λ pair. Each A (places_in pair)) (λ pair one. one.0) pairs
      all)

  node_made :
      (place : Place) (layer : Body) → A place → BodyIn (site A) layer →
      NodeIn (site A) (record { place = place; body = roll-NodeBody layer })
  unfolding NodeIn
  node_made place layer here within =
      let below : Each A (places_below (roll-NodeBody layer)) =
      subst (Each A) (sym (body_places layer)) (layer_made layer within) in
      let all : Each A (place ∷ places_below (roll-NodeBody layer)) = (here, below) in
      (subst (Each A) (sym (node_places place (roll-NodeBody layer))) all, all_spots _)

  pub scalar_made :
      (place : Place) (text : List ℕ) → A place →
      NodeIn (site A) (record { place = place; body = written.Scalar text })
  scalar_made place text here =
      let rolled : roll-NodeBody (Scalar text) ≡ written.Scalar text = search (rules, the_lemmas) in
      subst (λ (body : NodeBody). NodeIn (site A) (record { place = place; body = body })) rolled
      (node_made place (Scalar text) here tt)

  pub seq_made :
      (place : Place) (items : List Node) → A place → Each (NodeIn (site A)) items →
      NodeIn (site A) (record { place = place; body = written.Seq items })
  seq_made place items here within =
      let rolled : roll-NodeBody (Seq items) ≡ written.Seq items = search (rules, the_lemmas) in
      subst (λ (body : NodeBody). NodeIn (site A) (record { place = place; body = body })) rolled
      (node_made place (Seq items) here within)

  pub map_made :
      (place : Place) (pairs : List NodePair) → A place → Each (PairIn (site A)) pairs →
      NodeIn (site A) (record { place = place; body = written.Map pairs })
  map_made place pairs here within =
      let rolled : roll-NodeBody (Map pairs) ≡ written.Map pairs = search (rules, the_lemmas) in
      subst (λ (body : NodeBody). NodeIn (site A) (record { place = place; body = body })) rolled
      (node_made place (Map pairs) here within)

  pub pair_made :
      (key : List ℕ) (key_place : Place) (item : Node) → A key_place → NodeIn (site A) item →
      PairIn (site A) (record { key = key; key_place = key_place; item = item })
  unfolding NodeIn PairIn
  pair_made key key_place item here within =
      let all : Each A (key_place ∷ places_of item) = (here, within.0) in
      (subst (Each A) (sym (pair_places key key_place item)) all, all_spots _)
