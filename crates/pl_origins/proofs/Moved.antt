-- Trees whose origins are moved: what their scalars and keys say stays.
use Rattle.std.proofs.Common.{◌≡◌, ℕ, Option, Some, None, List, [], ◌∷◌, map, refl, ap, sym}
use Rattle.std.proofs.Common.{subst, ◌∙◌, rules}
use Rattle.std.specs.Option.{option_map}
use Rattle.std.specs.List.{AllByRecursion as Each}
use Rattle.pl_base.specs.declared.origin.Origin.{Origin}
use Rattle.pl_base.specs.declared.value.Value.{Value, out-Value, roll-Value, the_lemmas}
use Rattle.pl_base.specs.declared.value.Value.TheVariants as value
use Rattle.pl_base.specs.declared.value.Value.TheOpen.{Null, Bool as Truth, Number}
use Rattle.pl_base.specs.declared.value.Value.TheOpen.{Version, Str, Array, Object}
use Rattle.pl_base.specs.declared.value.MarkedNode.{MarkedNode}
use Rattle.pl_base.specs.declared.value.MarkedPair.{MarkedPair, fold-MarkedPair}
use Rattle.pl_frame.specs.Trees.{moved, all_moved, moved_value, moved_node, moved_pair}
use Rattle.pl_eval_laws.proofs.Leads.{Opened, lead, Head, head_at, head_in, head_by, head_of}
use Rattle.pl_eval_laws.proofs.Leads.{opened_is, rolled, atom_by, atom_of}
use Rattle.pl_eval_laws.specs.Marks.{Said, key as key_said, scalar}
use Rattle.pl_eval_laws.proofs.Trees.{Asked, Told, Atom, node_told, pair_told}
use Rattle.pl_eval_laws.proofs.Trees.{Calling, begun_implies}
use Rattle.pl_eval_laws.proofs.Trees.{NodeFrom, ValueFrom, PairFrom, Led, node_from, pair_from}
use Rattle.pl_eval_laws.proofs.Trees.{node_parts, node_led, pair_parts, value_parts, array_from}
use Rattle.pl_eval_laws.proofs.Trees.{object_from, null_from, truth_from, number_from, text_from}
use Rattle.pl_eval_laws.proofs.Trees.{version_from}
use Rattle.pl_origins.proofs.Induction.{Parts, node_induction, value_induction}

abbrev pair_moved : (Origin → Origin) → MarkedPair → MarkedPair
pair_moved move =
    fold-MarkedPair Value MarkedNode MarkedPair moved_value (moved_node move) (moved_pair move)

-- ---- the first pair of a mapping is moved

module _ (move : Origin → Origin) where
  layer_atom : (layer : Opened) → atom_of (all_moved move (roll-Value layer)) ≡ atom_by layer
  layer_atom Null = search (rules, the_lemmas)
  layer_atom (Truth truth) = search (rules, the_lemmas)
  layer_atom (Number number) = search (rules, the_lemmas)
  layer_atom (Version segments) = search (rules, the_lemmas)
  layer_atom (Str text) = search (rules, the_lemmas)
  layer_atom (Array items) = search (rules, the_lemmas)
  layer_atom (Object pairs) = search (rules, the_lemmas)

  atom_moves : (one : Value) → atom_of (all_moved move one) ≡ atom_of one
  atom_moves one =
      ap (λ one. atom_of (all_moved move one)) (sym (rolled one)) ∙ layer_atom (out-Value one)

  abbrev head_moved : Head → Head
  head_moved head = record { key = head.key; path = move head.path; atom = head.atom }

  pair_moves : (pair : MarkedPair) → head_at (pair_moved move pair) ≡ head_moved (head_at pair)
  pair_moves pair =
      by pair.key pair.key_origin pair.item.origin pair.item.value
    where
      by : (key : List ℕ) (key_origin origin : Origin) (one : Value) →
          head_at (pair_moved move (record {
            key = key;
            key_origin = key_origin;
            item = record { origin = origin; value = one };
          })) ≡ record { key = key; path = move origin; atom = atom_of one }
      by key key_origin origin one =
          let is :
          head_at (pair_moved move (record {
            key = key;
            key_origin = key_origin;
            item = record { origin = origin; value = one };
          }))
          ≡ record { key = key; path = move origin; atom = atom_of (all_moved move one) } =
          search (rules, the_lemmas) in
          is
          ∙ ap (λ (atom : Option Value). record { key = key; path = move origin; atom = atom })
          (atom_moves one)

  first_moves :
      (pairs : List MarkedPair) →
      head_in (map (pair_moved move) pairs) ≡ option_map head_moved (head_in pairs)
  first_moves [] = refl
  first_moves (pair ∷ pairs) = ap (λ (head : Head). Some head) (pair_moves pair)

  layer_head :
      (layer : Opened) →
      head_of (all_moved move (roll-Value layer)) ≡ option_map head_moved (head_by layer)
  layer_head Null = search (rules, the_lemmas)
  layer_head (Truth truth) = search (rules, the_lemmas)
  layer_head (Number number) = search (rules, the_lemmas)
  layer_head (Version segments) = search (rules, the_lemmas)
  layer_head (Str text) = search (rules, the_lemmas)
  layer_head (Array items) = search (rules, the_lemmas)
  layer_head (Object pairs) =
      let is :
      head_of (all_moved move (roll-Value (Object pairs)))
      ≡ head_in (map (pair_moved move) pairs) =
      search (rules, the_lemmas) in
      is ∙ first_moves pairs

  head_moves : (one : Value) → head_of (all_moved move one) ≡ option_map head_moved (head_of one)
  head_moves one =
      ap (λ one. head_of (all_moved move one)) (sym (rolled one)) ∙ layer_head (out-Value one)

-- P and Q are asked of origins, L and M of the calls that mappings would be
module _ (P Q L M : Asked) (move : Origin → Origin)
    (moves : (origin : Origin) → P.own origin → Q.own (move origin))
    (leads : (origin : Origin) → L.own origin → M.own (move origin))
    (apart : (item path : Origin) → move (lead item path) ≡ lead (move item) (move path))
    (calls : (item path : Origin) (one : Value) → L.own (lead item path) →
    Calling L item path one → Calling M (move item) (move path) one)
    (tells : (origin : Origin) (said : Said) → P.own origin → Told P origin said →
    Told Q (move origin) said) where
  abbrev ValueMoves : Value → Type 0
  ValueMoves one = ValueFrom P L one → ValueFrom Q M (all_moved move one)

  abbrev NodeMoves : MarkedNode → Type 0
  NodeMoves node = NodeFrom P L node → NodeFrom Q M (moved move node)

  abbrev PairMoves : MarkedPair → Type 0
  PairMoves pair = PairFrom P L pair → PairFrom Q M (pair_moved move pair)

  moved_each :
      {X : Type 0} (A B : X → Type 0) (f : X → X) (xs : List X) → Each (λ x. A x → B (f x)) xs →
      Each A xs → Each B (map f xs)
  moved_each A B f [] all from = tt
  moved_each A B f (x ∷ xs) all from = (all.0 from.0, moved_each A B f xs all.1 from.1)

  led_moves : (origin : Origin) (head : Option Head) → Led L origin head →
      Led M (move origin) (option_map (head_moved move) head)
  led_moves origin None led = tt
  led_moves origin (Some head) led = (
    subst M.own (apart origin head.path) (leads (lead origin head.path) led.0),
    begun_implies L M origin (move origin) head.key head.path (move head.path) head.atom
        (λ one. calls origin head.path one led.0) led.1,
  )

  atom_told : (origin : Origin) (atom : Option Value) → P.own origin → Atom P origin atom →
      Atom Q (move origin) atom
  atom_told origin None own told = tt
  atom_told origin (Some one) own told = tells origin (scalar one) own told

  of_layer : (layer : Opened) → Parts NodeMoves PairMoves layer → ValueMoves (roll-Value layer)
  of_layer Null parts from =
      let is : value.Null ≡ all_moved move (roll-Value Null) = search (rules, the_lemmas) in
      subst (ValueFrom Q M) is (null_from Q M)
  of_layer (Truth truth) parts from =
      let is : value.Bool truth ≡ all_moved move (roll-Value (Truth truth)) =
      search (rules, the_lemmas) in
      subst (ValueFrom Q M) is (truth_from Q M truth)
  of_layer (Number number) parts from =
      let is : value.Number number ≡ all_moved move (roll-Value (Number number)) =
      search (rules, the_lemmas) in
      subst (ValueFrom Q M) is (number_from Q M number)
  of_layer (Version segments) parts from =
      let is : value.Version segments ≡ all_moved move (roll-Value (Version segments)) =
      search (rules, the_lemmas) in
      subst (ValueFrom Q M) is (version_from Q M segments)
  of_layer (Str text) parts from =
      let is : value.Str text ≡ all_moved move (roll-Value (Str text)) =
      search (rules, the_lemmas) in
      subst (ValueFrom Q M) is (text_from Q M text)
  of_layer (Array items) parts from =
      let is :
      value.Array (map (moved move) items) ≡ all_moved move (roll-Value (Array items)) =
      search (rules, the_lemmas) in
      let below : Each (NodeFrom P L) items = rw opened_is at (value_parts P L _ from) in
      subst (ValueFrom Q M) is
      (array_from Q M _ (moved_each (NodeFrom P L) (NodeFrom Q M) (moved move) items parts below))
  of_layer (Object pairs) parts from =
      let is :
      value.Object (map (pair_moved move) pairs) ≡ all_moved move (roll-Value (Object pairs)) =
      search (rules, the_lemmas) in
      let below : Each (PairFrom P L) pairs = rw opened_is at (value_parts P L _ from) in
      subst (ValueFrom Q M) is
      (object_from Q M _
      (moved_each (PairFrom P L) (PairFrom Q M) (pair_moved move) pairs parts below))

  whole_moves :
      (origin : Origin) (one : Value) → ValueMoves one →
      NodeFrom P L (record { origin = origin; value = one }) →
      NodeFrom Q M (record { origin = move origin; value = all_moved move one })
  whole_moves origin one goes from =
      let node : MarkedNode = record { origin = origin; value = one } in
      let parts = node_parts P L node from in
      node_from Q M (move origin) (all_moved move one) (moves origin parts.0)
      (subst (Atom Q (move origin)) (sym (atom_moves move one))
      (atom_told origin (atom_of one) parts.0 (node_told P L node from))) (goes parts.1)
      (subst (Led M (move origin)) (sym (head_moves move one))
      (led_moves origin (head_of one) (node_led P L node from)))

  of_node :
      (origin : Origin) (one : Value) → ValueMoves one →
      NodeMoves (record { origin = origin; value = one })
  of_node origin one goes from =
      let node : MarkedNode = record { origin = origin; value = one } in
      let is :
      record { origin = move origin; value = all_moved move one } ≡ moved move node =
      search (rules, the_lemmas) in
      subst (NodeFrom Q M) is (whole_moves origin one goes from)

  of_pair :
      (key : List ℕ) (key_origin : Origin) (item : MarkedNode) → NodeMoves item →
      PairMoves (record { key = key; key_origin = key_origin; item = item })
  of_pair key key_origin item goes from =
      let pair : MarkedPair = record { key = key; key_origin = key_origin; item = item } in
      let is :
      record { key = key; key_origin = move key_origin; item = moved move item }
      ≡ pair_moved move pair =
      search (rules, the_lemmas) in
      let parts = pair_parts P L pair from in
      subst (PairFrom Q M) is
      (pair_from Q M key (move key_origin) (moved move item) (moves key_origin parts.0)
      (tells key_origin (key_said key) parts.0 (pair_told P L pair from)) (goes parts.1))

  pub moved_from : (node : MarkedNode) → NodeFrom P L node → NodeFrom Q M (moved move node)
  moved_from = node_induction ValueMoves NodeMoves PairMoves of_layer of_node of_pair

  pub all_moved_from :
      (origin : Origin) (one : Value) → NodeFrom P L (record { origin = origin; value = one }) →
      NodeFrom Q M (record { origin = move origin; value = all_moved move one })
  all_moved_from origin one =
      whole_moves origin one
      (value_induction ValueMoves NodeMoves PairMoves of_layer of_node of_pair one)
