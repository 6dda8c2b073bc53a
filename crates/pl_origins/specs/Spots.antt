-- What a file's node says at its places: a scalar its text, a key its own, and a mapping the text
-- under its key `name`, as it may declare a parameter of that name, which stands where it does. And
-- a mapping begins with its first pair.
use Rattle.std.specs.Prelude.{ℕ, List, [], ◌∷◌, ◌++◌, map, find, codes}
use Rattle.std.specs.Option.{option_map_or}
use Rattle.pl_base.specs.declared.place.Place.{Place}
use Rattle.pl_base.specs.declared.node.Node.{Node, fold-Node}
use Rattle.pl_base.specs.declared.node.NodeBody.{NodeBody, fold-NodeBody}
use Rattle.pl_base.specs.declared.node.NodePair.{NodePair, fold-NodePair}
use Rattle.pl_base.specs.declared.node.NodeBody.TheOpen.{NodeBody-F, Node-F, NodePair-F}
use Rattle.pl_base.specs.declared.node.NodeBody.TheOpen.{Scalar, Seq, Map}
use Rattle.pl_base.specs.declared.value.Value.{Str}
use Rattle.pl_base.specs.Texts.{is}
use Rattle.pl_eval_laws.specs.Marks.{Said, key, scalar}

-- a pair: its key, where its value stands, and the text of that, which a collection has none of
pub record Beginning : Type 0 where
  pub key : List ℕ
  pub place : Place
  pub text : List ℕ

-- what stands at a place
pub data Written : Type 0 where
  says : Said → Written
  begins : Beginning → Written

pub record Spot : Type 0 where
  pub place : Place
  pub written : Written

abbrev pub Spots : Type 0
Spots = List Spot

abbrev pub spot : Place → Written → Spot
spot place written = record { place = place; written = written }

-- what a body says where its node stands, its text, and all below it
pub record BodySpots : Type 0 where
  pub written : List Written
  pub text : List ℕ
  pub spots : Spots

pub record NodeSpots : Type 0 where
  pub place : Place
  pub text : List ℕ
  pub spots : Spots

pub record PairSpots : Type 0 where
  pub begins : Beginning
  pub spots : Spots

-- lists, one behind the other
abbrev pub items_together : List NodeSpots → Spots
items_together [] = []
items_together (first ∷ rest) = first.spots ++ items_together rest

abbrev pub pairs_together : List PairSpots → Spots
pairs_together [] = []
pairs_together (first ∷ rest) = first.spots ++ pairs_together rest

unfoldable pub name_in : List PairSpots → List ℕ
name_in pairs =
    option_map_or (λ pair. pair.begins.text)
    (find (λ pair. is pair.begins.key (codes "name")) pairs) []

-- where a mapping has a first pair
abbrev pub first_in : List PairSpots → List Written
first_in [] = []
first_in (pair ∷ pairs) = begins pair.begins ∷ []

abbrev pub body_step : NodeBody-F BodySpots NodeSpots PairSpots → BodySpots
body_step (Scalar text) =
    record { written = says (scalar (Str text)) ∷ []; text = text; spots = [] }
body_step (Seq items) = record { written = []; text = []; spots = items_together items }
body_step (Map pairs) = record {
  written = says (key (name_in pairs)) ∷ first_in pairs;
  text = [];
  spots = pairs_together pairs;
}

abbrev pub node_step : Node-F BodySpots NodeSpots PairSpots → NodeSpots
node_step node = record {
  place = node.place;
  text = node.body.text;
  spots = map (spot node.place) node.body.written ++ node.body.spots;
}

abbrev pub pair_step : NodePair-F BodySpots NodeSpots PairSpots → PairSpots
pair_step pair = record {
  begins = record { key = pair.key; place = pair.item.place; text = pair.item.text };
  spots = spot pair.key_place (says (key pair.key)) ∷ pair.item.spots;
}

unfoldable pub node_seen : Node → NodeSpots
node_seen = fold-Node BodySpots NodeSpots PairSpots body_step node_step pair_step

unfoldable pub body_seen : NodeBody → BodySpots
body_seen = fold-NodeBody BodySpots NodeSpots PairSpots body_step node_step pair_step

unfoldable pub pair_seen : NodePair → PairSpots
pair_seen = fold-NodePair BodySpots NodeSpots PairSpots body_step node_step pair_step

abbrev pub spots_of : Node → Spots
spots_of node = (node_seen node).spots

-- A text stands there that gives an item's path, or its first key and its path, where an expression
-- is in it: a scalar, a key, a mapping's first key, or the text of its first key `template`.
pub data IsTextOf (text : List ℕ) : Written → Type 0 where
  a_scalar : IsTextOf text (says (scalar (Str text)))
  a_key : IsTextOf text (says (key text))
  first_key : (place : Place) (value : List ℕ) →
      IsTextOf text (begins (record { key = text; place = place; text = value }))
  first_value : (place : Place) →
      IsTextOf text (begins (record { key = codes "template"; place = place; text = text }))
