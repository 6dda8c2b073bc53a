-- Trees by what they are made of: the equations of the functions on them.
use Rattle.std.proofs.Common.{◌≡◌, ℕ, ◌+◌, Bool, List, [], map, sym, subst, rules}
use Rattle.std.specs.Prelude.{encode_utf8_all}
use Rattle.std.specs.List.{list_all}
use Rattle.pl_base.specs.declared.place.FileKey.{FileKey}
use Rattle.pl_base.specs.declared.place.Place.{Place}
use Rattle.pl_base.specs.Places.{place_at}
use Rattle.pl_base.specs.declared.node.Node.{Node}
use Rattle.pl_base.specs.declared.node.NodeBody.{NodeBody, out-NodeBody, roll-NodeBody, the_lemmas}
use Rattle.pl_base.specs.declared.node.NodeBody.TheVariants.{Scalar, Seq, Map}
use Rattle.pl_base.specs.declared.node.NodeBody.TheVariants as variants
use Rattle.pl_base.specs.declared.node.NodeBody.TheOpen.{NodeBody-F}
use Rattle.pl_base.specs.declared.node.NodeBody.TheOpen as layer
use Rattle.pl_base.specs.declared.node.NodePair.{NodePair, fold-NodePair}
use Rattle.pl_printing.specs.Printed.{inline, quoted, sequence_of, mapping_of, pair_entry, written}
use Rattle.pl_printing.specs.Printed.{written_pair}
use Rattle.pl_round_trip.specs.Trees.{highest, depth, depth_of_body, depth_of_node, depth_of_pair}
use Rattle.pl_round_trip.specs.Trees.{differ_behind, differ_in_body, differ_in_node, differ_in_pair}
use Rattle.pl_round_trip.specs.Trees.{keys_differ, body_without, node_without, pair_without}
use Rattle.pl_round_trip.specs.Trees.{without_places}
use Rattle.pl_round_trip.proofs.Texts.{recoded_pair, encoded}

-- ---- each body is a scalar, a sequence or a mapping

body_rolled : (body : NodeBody) → roll-NodeBody (out-NodeBody body) ≡ body
body_rolled body = search (rules, the_lemmas)

pub body_cases :
    (P : NodeBody → Type 0) → ((text : List ℕ) → P (Scalar text)) →
    ((items : List Node) → P (Seq items)) → ((pairs : List NodePair) → P (Map pairs)) →
    (body : NodeBody) → P body
body_cases P scalar sequence mapping body =
    subst P (body_rolled body) (at_layer (out-NodeBody body))
  where
    at_layer : (x : NodeBody-F NodeBody Node NodePair) → P (roll-NodeBody x)
    at_layer (layer.Scalar text) = subst P (sym (variants.rolls-Scalar text)) (scalar text)
    at_layer (layer.Seq items) = subst P (sym (variants.rolls-Seq items)) (sequence items)
    at_layer (layer.Map pairs) = subst P (sym (variants.rolls-Map pairs)) (mapping pairs)

-- a node of a body
abbrev pub node_of : Place → NodeBody → Node
node_of place body = record { place = place; body = body }

-- ---- how a node is written

pub written_scalar :
    (place : Place) (text : List ℕ) → written (node_of place (Scalar text)) ≡ inline (quoted text)
written_scalar place text = search (rules, the_lemmas)

pub written_sequence :
    (place : Place) (items : List Node) →
    written (node_of place (Seq items)) ≡ sequence_of (map written items)
written_sequence place items = search (rules, the_lemmas)

pub written_mapping :
    (place : Place) (pairs : List NodePair) →
    written (node_of place (Map pairs)) ≡ mapping_of (map written_pair pairs)
written_mapping place pairs = search (rules, the_lemmas)

pub pair_written : (pair : NodePair) → written_pair pair ≡ pair_entry pair.key (written pair.item)
pair_written pair = search (rules, the_lemmas)

-- ---- how deep it is

abbrev pub depth_in_pair : NodePair → ℕ
depth_in_pair = fold-NodePair ℕ ℕ ℕ depth_of_body depth_of_node depth_of_pair

pub depth_sequence :
    (place : Place) (items : List Node) →
    depth (node_of place (Seq items)) ≡ 1 + highest (map depth items)
depth_sequence place items = search (rules, the_lemmas)

pub depth_mapping :
    (place : Place) (pairs : List NodePair) →
    depth (node_of place (Map pairs)) ≡ 1 + highest (map depth_in_pair pairs)
depth_mapping place pairs = search (rules, the_lemmas)

pub pair_depth : (pair : NodePair) → depth_in_pair pair ≡ depth pair.item
pair_depth pair = search (rules, the_lemmas)

-- ---- whether its keys differ

abbrev pub pair_differs : NodePair → List ℕ × Bool
pair_differs = fold-NodePair Bool Bool (List ℕ × Bool) differ_in_body differ_in_node differ_in_pair

pub sequence_differs :
    (place : Place) (items : List Node) →
    keys_differ (node_of place (Seq items)) ≡ list_all (λ differ. differ) (map keys_differ items)
sequence_differs place items = search (rules, the_lemmas)

pub mapping_differs :
    (place : Place) (pairs : List NodePair) →
    keys_differ (node_of place (Map pairs)) ≡ differ_behind [] (map pair_differs pairs)
mapping_differs place pairs = search (rules, the_lemmas)

pub differs_in_pair : (pair : NodePair) → pair_differs pair ≡ (pair.key, keys_differ pair.item)
differs_in_pair pair = search (rules, the_lemmas)

-- ---- what it is in UTF-8

abbrev pub pair_encoded : NodePair → NodePair
pair_encoded = recoded_pair encode_utf8_all

pub encoded_scalar :
    (place : Place) (text : List ℕ) →
    encoded (node_of place (Scalar text)) ≡ node_of place (Scalar (encode_utf8_all text))
encoded_scalar place text = search (rules, the_lemmas)

pub encoded_sequence :
    (place : Place) (items : List Node) →
    encoded (node_of place (Seq items)) ≡ node_of place (Seq (map encoded items))
encoded_sequence place items = search (rules, the_lemmas)

pub encoded_mapping :
    (place : Place) (pairs : List NodePair) →
    encoded (node_of place (Map pairs)) ≡ node_of place (Map (map pair_encoded pairs))
encoded_mapping place pairs = search (rules, the_lemmas)

pub encoded_pair :
    (pair : NodePair) →
    pair_encoded pair ≡ record {
      key = encode_utf8_all pair.key;
      key_place = pair.key_place;
      item =
          encoded pair.item;
    }
encoded_pair pair = search (rules, the_lemmas)

-- ---- what is left of it without places

abbrev pub without_in_pair : FileKey → NodePair → NodePair
without_in_pair file = fold-NodePair NodeBody Node NodePair body_without (node_without file)
    (pair_without file)

pub without_scalar :
    (file : FileKey) (place : Place) (text : List ℕ) →
    without_places file (node_of place (Scalar text)) ≡ node_of (place_at file 1 1) (Scalar text)
without_scalar file place text = search (rules, the_lemmas)

pub without_sequence :
    (file : FileKey) (place : Place) (items : List Node) →
    without_places file (node_of place (Seq items)) ≡
    node_of (place_at file 1 1) (Seq (map (without_places file) items))
without_sequence file place items = search (rules, the_lemmas)

pub without_mapping :
    (file : FileKey) (place : Place) (pairs : List NodePair) →
    without_places file (node_of place (Map pairs)) ≡
    node_of (place_at file 1 1) (Map (map (without_in_pair file) pairs))
without_mapping file place pairs = search (rules, the_lemmas)

pub without_pair :
    (file : FileKey) (pair : NodePair) →
    without_in_pair file pair ≡ record {
      key = pair.key;
      key_place = place_at file 1 1;
      item =
          without_places file pair.item;
    }
without_pair file pair = search (rules, the_lemmas)
