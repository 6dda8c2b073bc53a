-- Looking up in a tree whose nodes and keys have other origins.
use Rattle.std.proofs.Common.{◌≡◌, ℕ, ℤ, pos, negsuc, Bool, true, false, cond, Option, Some, None}
use Rattle.std.proofs.Common.{List, [], ◌∷◌, map, refl, ap, sym, ◌∙◌, rules}
use Rattle.std.specs.Prelude.{find}
use Rattle.std.specs.Option.{option_map, option_and_then}
use Rattle.std.proofs.lemmas.Option.{slice_get-map}
use Rattle.pl_base.specs.declared.origin.Crossing.TheVariants.{Argument}
use Rattle.pl_base.specs.declared.origin.Origin.{Origin}
use Rattle.pl_base.specs.declared.place.Place.{Place}
use Rattle.pl_base.specs.declared.value.Value.{Value, out-Value, roll-Value, the_lemmas}
use Rattle.pl_base.specs.declared.value.Value.TheOpen as layer
use Rattle.pl_base.specs.declared.value.MarkedNode.{MarkedNode}
use Rattle.pl_base.specs.declared.value.MarkedPair.{MarkedPair, fold-MarkedPair}
use Rattle.pl_expr.specs.Conversions.{number_of_value, text_of}
use Rattle.pl_eval.specs.Known.{same_name}
use Rattle.pl_eval.specs.LookUps.{Opened, found, found_behind, found_in, item_at}
use Rattle.pl_eval.specs.LookUps.{made, part_of, property}
use Rattle.pl_frame.specs.declared.frame.Parameter.{Parameter}
use Rattle.pl_frame.specs.Names.{taken, taken_of}
use Rattle.pl_frame.specs.Origins.{across}
use Rattle.pl_frame.specs.Trees.{all_moved, moved, moved_node, moved_pair, moved_value}

rolled : (of : Value) → roll-Value (out-Value of) ≡ of
rolled of = search (rules, the_lemmas)

opened_is : (one : Opened) → out-Value (roll-Value one) ≡ one
opened_is one = search (rules, the_lemmas)

module _ (move : Origin → Origin) where
  abbrev pair_moved : MarkedPair → MarkedPair
  pair_moved =
      fold-MarkedPair Value MarkedNode MarkedPair moved_value (moved_node move) (moved_pair move)

  abbrev one_moved : Opened → Opened
  one_moved (layer.Array items) = layer.Array (map (moved move) items)
  one_moved (layer.Object pairs) = layer.Object (map pair_moved pairs)
  one_moved atom = atom

  layer_moved : (one : Opened) → all_moved move (roll-Value one) ≡ roll-Value (one_moved one)
  layer_moved layer.Null = search (rules, the_lemmas)
  layer_moved (layer.Bool truth) = search (rules, the_lemmas)
  layer_moved (layer.Number number) = search (rules, the_lemmas)
  layer_moved (layer.Version segments) = search (rules, the_lemmas)
  layer_moved (layer.Str text) = search (rules, the_lemmas)
  layer_moved (layer.Array items) = search (rules, the_lemmas)
  layer_moved (layer.Object pairs) = search (rules, the_lemmas)

  opened_moved : (of : Value) → out-Value (all_moved move of) ≡ one_moved (out-Value of)
  opened_moved of =
      ap (λ of. out-Value (all_moved move of)) (sym (rolled of))
      ∙ (ap out-Value (layer_moved (out-Value of)) ∙ opened_is (one_moved (out-Value of)))

  value_moved : (node : MarkedNode) → (moved move node).value ≡ all_moved move node.value
  value_moved node = search (rules, the_lemmas)

  key_moved : (pair : MarkedPair) → (pair_moved pair).key ≡ pair.key
  key_moved pair = search (rules, the_lemmas)

  item_moved : (pair : MarkedPair) → (pair_moved pair).item ≡ moved move pair.item
  item_moved pair = search (rules, the_lemmas)

  property_moved : (pairs : List MarkedPair) (name : List ℕ) →
      property (map pair_moved pairs) name ≡ option_map (moved move) (property pairs name)
  property_moved [] name = refl
  property_moved (pair ∷ pairs) name =
      ap (λ key. option_map (λ pair. pair.item) (cond (same_name name key) (Some (pair_moved pair))
      (find (λ pair. same_name name pair.key) (map pair_moved pairs)))) (key_moved pair)
      ∙ by (same_name name pair.key) (property_moved pairs name)
    where
      by : (b : Bool) →
          property (map pair_moved pairs) name ≡ option_map (moved move) (property pairs name) →
          option_map (λ pair. pair.item) (cond b (Some (pair_moved pair))
          (find (λ pair. same_name name pair.key) (map pair_moved pairs)))
          ≡ option_map (moved move) (option_map (λ pair. pair.item) (cond b (Some pair)
          (find (λ pair. same_name name pair.key) pairs)))
      by true later = ap (λ (node : MarkedNode). Some node) (item_moved pair)
      by false later = later

  item_moved_at : (items : List MarkedNode) (at : Option ℤ) →
      option_and_then (item_at (map (moved move) items)) at
      ≡ option_map (moved move) (option_and_then (item_at items) at)
  item_moved_at items None = refl
  item_moved_at items (Some (pos at)) = slice_get-map (moved move) items at
  item_moved_at items (Some (negsuc at)) = refl

  property_moved_at : (pairs : List MarkedPair) (name : Option (List ℕ)) →
      option_and_then (property (map pair_moved pairs)) name
      ≡ option_map (moved move) (option_and_then (property pairs) name)
  property_moved_at pairs None = refl
  property_moved_at pairs (Some name) = property_moved pairs name

  found_in_moved : (of : Opened) (at : Value) →
      found_in (one_moved of) at ≡ option_map (moved move) (found_in of at)
  found_in_moved (layer.Array items) at = item_moved_at items (number_of_value at)
  found_in_moved (layer.Object pairs) at = property_moved_at pairs (text_of at)
  found_in_moved layer.Null at = refl
  found_in_moved (layer.Bool truth) at = refl
  found_in_moved (layer.Number number) at = refl
  found_in_moved (layer.Version segments) at = refl
  found_in_moved (layer.Str text) at = refl

  found_moved : (of at : Value) →
      found (all_moved move of) at ≡ option_map (moved move) (found of at)
  found_moved of at =
      ap (λ of. found_in of at) (opened_moved of) ∙ found_in_moved (out-Value of) at

  further : (path : List Value) (one : Option MarkedNode) →
      ((node : MarkedNode) →
      found_behind path (moved move node) ≡ option_map (moved move) (found_behind path node)) →
      option_and_then (found_behind path) (option_map (moved move) one)
      ≡ option_map (moved move) (option_and_then (found_behind path) one)
  further path None later = refl
  further path (Some node) later = later node

  behind_moved_value : (path : List Value) (at of : Value) →
      ((node : MarkedNode) →
      found_behind path (moved move node) ≡ option_map (moved move) (found_behind path node)) →
      option_and_then (found_behind path) (found (all_moved move of) at)
      ≡ option_map (moved move) (option_and_then (found_behind path) (found of at))
  behind_moved_value path at of later =
      ap (option_and_then (found_behind path)) (found_moved of at)
      ∙ further path (found of at) later

  -- what a path finds in the tree is what it finds in the tree before, with other origins
  pub behind_moved : (path : List Value) (node : MarkedNode) →
      found_behind path (moved move node) ≡ option_map (moved move) (found_behind path node)
  behind_moved [] node = refl
  behind_moved (at ∷ path) node =
      ap (λ of. option_and_then (found_behind path) (found of at)) (value_moved node)
      ∙ behind_moved_value path at node.value (behind_moved path)

same : (one : Option MarkedNode) → option_map (λ node. node) one ≡ one
same None = refl
same (Some node) = refl

taken_behind : (place : Place) (parameter : Parameter) (path : List Value) →
    option_map (taken_of place parameter) (found_behind path parameter.value)
    ≡ found_behind path (taken place parameter)
taken_behind place parameter path = by parameter.given
  where
    by : (given : Bool) →
        option_map
        (λ node. cond given (moved (across (Argument parameter.name place)) node) node)
        (found_behind path parameter.value)
        ≡ found_behind path
        (cond given (moved (across (Argument parameter.name place)) parameter.value)
        parameter.value)
    by true =
        sym (behind_moved (across (Argument parameter.name place)) path parameter.value)
    by false = same (found_behind path parameter.value)

-- a part of what an expression takes of a parameter
pub part_taken : (place : Place) (parameter : Parameter) (path : List Value)
    (one : Option MarkedNode) → one ≡ found_behind path parameter.value →
    part_of (Some (option_map (taken_of place parameter) one))
    ≡ part_of (Some (found_behind path (taken place parameter)))
part_taken place parameter path one is =
    ap (λ one. part_of (Some one))
    (ap (option_map (taken_of place parameter)) is ∙ taken_behind place parameter path)

-- a part of the value of a variable
pub part_everywhere : (here : Origin) (of at : Value) (rest path : List Value)
    (one : Option MarkedNode) → path ≡ at ∷ rest →
    one ≡ option_and_then (found_behind rest) (found of at) →
    part_of (Some (option_map (moved (λ _. here)) one))
    ≡ part_of (Some (found_behind path (made here (all_moved (λ _. here) of))))
part_everywhere here of at rest path one path_is is =
    ap (λ one. part_of (Some one)) (ap (option_map (moved (λ _. here))) is
    ∙ (sym (behind_moved_value (λ _. here) rest at of (behind_moved (λ _. here) rest))
    ∙ ap (λ path. found_behind path (made here (all_moved (λ _. here) of))) (sym path_is)))
