-- The parameters of a template, from what is declared and what is given.
use Rattle.std.proofs.Common.{◌≡◌, ℕ, ℤ, Bool, true, false, cond, Option, Some, None, Result, Ok}
use Rattle.std.proofs.Common.{Err, List, [], ◌∷◌, ◌++◌, map, refl, ap, sym, subst, ◌∙◌, rules}
use Rattle.std.specs.Prelude.{IfOk, find, codes}
use Rattle.std.specs.List.{AllByRecursion as Each, list_all}
use Rattle.std.specs.Option.{option_map}
use Rattle.pl_base.specs.Texts.{is}
use Rattle.pl_base.specs.declared.origin.Crossing.{Crossing}
use Rattle.pl_base.specs.declared.origin.Crossing.TheVariants.{Argument}
use Rattle.pl_base.specs.declared.origin.Origin.{Origin}
use Rattle.pl_base.specs.declared.place.Place.{Place}
use Rattle.pl_base.specs.declared.node.Node.{Node}
use Rattle.pl_base.specs.declared.node.NodeBody.{NodeBody, out-NodeBody, roll-NodeBody, the_lemmas}
use Rattle.pl_base.specs.declared.node.NodePair.{NodePair}
use Rattle.pl_base.specs.declared.node.NodeBody.TheOpen.{Scalar, Seq, Map}
use Rattle.pl_base.specs.declared.value.Value.{Value, out-Value, the_lemmas as the_values}
use Rattle.pl_base.specs.declared.value.Value as value
use Rattle.pl_base.specs.declared.value.Value.TheOpen as layer
use Rattle.pl_base.specs.declared.value.MarkedNode.{MarkedNode}
use Rattle.pl_expr.specs.Conversions.{text_of}
use Rattle.pl_expr.specs.Numerals.{number_in}
use Rattle.pl_frame.specs.Bindings.{crossed, parameters_of}
use Rattle.pl_frame.specs.Names.{taken}
use Rattle.pl_frame.specs.Origins.{across}
use Rattle.pl_frame.specs.Trees.{moved}
use Rattle.pl_literal.specs.Booleans.{boolean_in, spells}
use Rattle.pl_literal.specs.declared.items.ItemKind.{ItemKind}
use Rattle.pl_literal.specs.declared.items.ItemKind.TheVariants as item
use Rattle.pl_literal.specs.Literal.{literal, literal_body, literal_pair, origin_at}
use Rattle.pl_params.specs.declared.fault.Complaint.{Complaint}
use Rattle.pl_params.specs.declared.given.Bound.{Bound}
use Rattle.pl_params.specs.declared.given.Given.{Given}
use Rattle.pl_params.specs.declared.judging.Judged.{Judged}
use Rattle.pl_params.specs.declared.judging.Judged.TheVariants.{Fits, NotOfType, NotAllowed}
use Rattle.pl_params.specs.declared.kind.ParamKind.{ParamKind}
use Rattle.pl_params.specs.declared.kind.ParamKind.TheVariants as kind
use Rattle.pl_params.specs.declared.param.Param.{Param}
use Rattle.pl_params.specs.Binding.{bound, default_judged, bound_default, given_judged, bound_from}
use Rattle.pl_params.specs.Binding.{given_for, bound_param, unexpected, binds_unless, binds}
use Rattle.pl_params.specs.Declaring.{unless, complaints_of, first_of, written_param, item_from}
use Rattle.pl_params.specs.Declaring.{item_param, object_param, pair_complaint, pair_param}
use Rattle.pl_params.specs.Declaring.{declares_from, declares}
use Rattle.pl_params.specs.Judging.{allows, judged_read, judged}
use Rattle.pl_params.specs.Kinds.{number_from, boolean_from, is_item, items_from, value_as}
use Rattle.pl_params.specs.Kinds.{with_value, read_as}
use Rattle.pl_params.specs.Nodes.{under, text_in}
use Rattle.pl_params.specs.Steps.{in_turn}
use Rattle.pl_reading.specs.Steps.{◌>>=◌}
use Rattle.pl_recursion.specs.Below.pl_calls.specs.Parameters.{parameter_told, declared_by, bound_to}
use Rattle.pl_recursion.specs.Below.pl_calls.specs.Parts.{Body}
use Rattle.pl_eval_laws.proofs.Leads.{Opened, head_at, head_in, head_of, array_head, object_head}
use Rattle.pl_eval_laws.proofs.Leads.{atom_by, atom_of}
use Rattle.pl_eval_laws.specs.Marks.{Said, key as key_said, scalar, IsOfFiles}
use Rattle.pl_eval_laws.proofs.Marks.{atom_value, text_atom, str_atom}
use Rattle.pl_eval_laws.proofs.Marks.{array_atom, object_atom}
use Rattle.pl_eval_laws.proofs.Lists.{Has, has_map, each_append, each_found}
use Rattle.pl_eval_laws.proofs.Trees.{Asked, Told, Atom, Calling, Begun, only, node_told}
use Rattle.pl_eval_laws.proofs.Trees.{NodeFrom, ValueFrom, PairFrom, OpenedFrom, node_from}
use Rattle.pl_eval_laws.proofs.Trees.{pair_from, array_from, object_from, text_from, text_node}
use Rattle.pl_eval_laws.proofs.Trees.{number_node, truth_node, array_node, node_parts, value_parts}
use Rattle.pl_eval_laws.proofs.Trees.{head_from, led_from, node_implies}
use Rattle.pl_origins.proofs.Frames.{Seen, SeenFrom, Reads, ParameterFrom, none_told, none_calling}
use Rattle.pl_origins.proofs.Induction.{BodyParts, written_induction}
use Rattle.pl_origins.proofs.Moved.{moved_from}
use Rattle.pl_origins.proofs.Nodes.{Site, NodeIn, PairIn, BodyIn, node_in, pair_in, said_in}
use Rattle.pl_origins.proofs.Nodes.{node_says, pair_says, Stood, beginning_of, firsts_of}

-- ---- what is written in a file, as a value

-- an item as it is written: a mapping that begins with `template`
abbrev WrittenAs : Site → Place → Place → Value → Type 0
WrittenAs R at from one =
    (text : List ℕ)
    × ((one ≡ value.Str text)
    × R.begins at (record { key = codes "template"; place = from; text = text }))

-- what stands in a file behind such borders, and what is said there
abbrev pub Stands : Site → List Crossing → Asked
Stands R crossings = record {
  own = λ origin. R.at origin.source × (origin.crossings ≡ crossings);
  says = R.says;
  calls = WrittenAs R;
}

module _ (R : Site) (crossings : List Crossing) where
  abbrev S : Asked
  S = Stands R crossings

  abbrev BodyClaim : NodeBody → Type 0
  BodyClaim one = BodyIn R (out-NodeBody one) → ValueFrom S S (literal_body crossings one)

  abbrev NodeClaim : Node → Type 0
  NodeClaim one = NodeIn R one → NodeFrom S S (literal crossings one)

  abbrev PairClaim : NodePair → Type 0
  PairClaim one = PairIn R one → PairFrom S S (literal_pair crossings one)

  each_claim :
      {X Y : Type 0} (A : X → Type 0) (B : Y → Type 0) (f : X → Y) (xs : List X) →
      Each (λ x. A x → B (f x)) xs → Each A xs → Each B (map f xs)
  each_claim A B f [] claims all = tt
  each_claim A B f (x ∷ xs) claims all = (claims.0 all.0, each_claim A B f xs claims.1 all.1)

  opened_is : (layer : Body) → out-NodeBody (roll-NodeBody layer) ≡ layer
  opened_is layer = search (rules, the_lemmas)

  rolled_body : (body : NodeBody) → roll-NodeBody (out-NodeBody body) ≡ body
  rolled_body body = search (rules, the_lemmas)

  layer_claim :
      (layer : Body) → BodyParts NodeClaim PairClaim layer → BodyIn R layer →
      ValueFrom S S (literal_body crossings (roll-NodeBody layer))
  layer_claim (Scalar text) claims within =
      let is : value.Str text ≡ literal_body crossings (roll-NodeBody (Scalar text)) =
      search (rules, the_lemmas) in
      subst (ValueFrom S S) is (text_from S S text)
  layer_claim (Seq items) claims within =
      let is :
      value.Array (map (literal crossings) items)
      ≡ literal_body crossings (roll-NodeBody (Seq items)) =
      search (rules, the_lemmas) in
      subst (ValueFrom S S) is
      (array_from S S _
      (each_claim (NodeIn R) (NodeFrom S S) (literal crossings) items claims within))
  layer_claim (Map pairs) claims within =
      let is :
      value.Object (map (literal_pair crossings) pairs)
      ≡ literal_body crossings (roll-NodeBody (Map pairs)) =
      search (rules, the_lemmas) in
      subst (ValueFrom S S) is
      (object_from S S _
      (each_claim (PairIn R) (PairFrom S S) (literal_pair crossings) pairs claims within))

  -- a scalar says its text
  layer_atom :
      (place : Place) (layer : Body) → Each (Stood R place) (said_in layer) →
      Atom S (origin_at crossings place) (atom_of (literal_body crossings (roll-NodeBody layer)))
  layer_atom place (Scalar text) says =
      let is : value.Str text ≡ literal_body crossings (roll-NodeBody (Scalar text)) =
      search (rules, the_lemmas) in
      subst (λ (one : Value). Atom S (origin_at crossings place) (atom_of one)) is
      (subst (Atom S (origin_at crossings place)) (sym (str_atom text)) (λ files. says.0))
  layer_atom place (Seq items) says =
      let is :
      value.Array (map (literal crossings) items)
      ≡ literal_body crossings (roll-NodeBody (Seq items)) =
      search (rules, the_lemmas) in
      subst (λ (one : Value). Atom S (origin_at crossings place) (atom_of one)) is
      (subst (Atom S (origin_at crossings place)) (sym (array_atom _)) tt)
  layer_atom place (Map pairs) says =
      let is :
      value.Object (map (literal_pair crossings) pairs)
      ≡ literal_body crossings (roll-NodeBody (Map pairs)) =
      search (rules, the_lemmas) in
      subst (λ (one : Value). Atom S (origin_at crossings place) (atom_of one)) is
      (subst (Atom S (origin_at crossings place)) (sym (object_atom _)) tt)

  body_atom :
      (place : Place) (one : NodeBody) → Each (Stood R place) (said_in (out-NodeBody one)) →
      Atom S (origin_at crossings place) (atom_of (literal_body crossings one))
  body_atom place one says =
      subst (λ (body : NodeBody). Atom S (origin_at crossings place)
      (atom_of (literal_body crossings body))) (rolled_body one)
      (layer_atom place (out-NodeBody one) says)

  text_head : (text : List ℕ) → head_of (value.Str text) ≡ None
  text_head text = search (rules, the_values)

  -- a mapping begins as it is written
  value_atom : (one : NodeBody) →
      Has (λ atom. atom ≡ value.Str (text_in (out-NodeBody one)))
      (atom_of (literal_body crossings one))
  value_atom one =
      subst (λ (body : NodeBody). Has (λ atom. atom ≡ value.Str (text_in (out-NodeBody body)))
      (atom_of (literal_body crossings body))) (rolled_body one) (by (out-NodeBody one))
    where
      at : (layer : Body) (found : Option Value) →
          atom_of (literal_body crossings (roll-NodeBody layer)) ≡ found →
          Has (λ atom. atom ≡ value.Str (text_in layer)) found →
          Has (λ atom. atom ≡ value.Str (text_in (out-NodeBody (roll-NodeBody layer))))
          (atom_of (literal_body crossings (roll-NodeBody layer)))
      at layer found is has =
          subst (λ (body : Body). Has (λ atom. atom ≡ value.Str (text_in body))
          (atom_of (literal_body crossings (roll-NodeBody layer)))) (sym (opened_is layer))
          (subst (Has (λ atom. atom ≡ value.Str (text_in layer))) (sym is) has)

      by : (layer : Body) →
          Has (λ atom. atom ≡ value.Str (text_in (out-NodeBody (roll-NodeBody layer))))
          (atom_of (literal_body crossings (roll-NodeBody layer)))
      by (Scalar text) =
          let is : literal_body crossings (roll-NodeBody (Scalar text)) ≡ value.Str text =
          search (rules, the_lemmas) in
          at (Scalar text) (Some (value.Str text)) (ap atom_of is ∙ str_atom text) refl
      by (Seq items) =
          let is : literal_body crossings (roll-NodeBody (Seq items))
          ≡ value.Array (map (literal crossings) items) = search (rules, the_lemmas) in
          at (Seq items) None (ap atom_of is ∙ array_atom _) tt
      by (Map pairs) =
          let is : literal_body crossings (roll-NodeBody (Map pairs))
          ≡ value.Object (map (literal_pair crossings) pairs) = search (rules, the_lemmas) in
          at (Map pairs) None (ap atom_of is ∙ object_atom _) tt

  head_is : (pair : NodePair) →
      head_at (literal_pair crossings pair) ≡ record {
        key = pair.key;
        path = origin_at crossings pair.item.place;
        atom = atom_of (literal_body crossings pair.item.body);
      }
  head_is pair = by pair.key pair.key_place pair.item.place pair.item.body
    where
      by : (key : List ℕ) (key_place place : Place) (body : NodeBody) →
          head_at (literal_pair crossings (record {
            key = key;
            key_place = key_place;
            item = record { place = place; body = body };
          })) ≡ record {
            key = key;
            path = origin_at crossings place;
            atom = atom_of (literal_body crossings body);
          }
      by key key_place place body = search (rules, the_lemmas)

  pair_begun : (place : Place) (pair : NodePair) → R.begins place (beginning_of pair) →
      Begun S (origin_at crossings place) (head_at (literal_pair crossings pair))
  pair_begun place pair stands =
      subst (Begun S (origin_at crossings place)) (sym (head_is pair))
      (λ is. by (atom_of (literal_body crossings pair.item.body)) (value_atom pair.item.body)
      (subst (λ (key : List ℕ). R.begins place (record {
        key = key;
        place = pair.item.place;
        text = text_in (out-NodeBody pair.item.body);
      })) is stands))
    where
      by : (atom : Option Value) →
          Has (λ atom. atom ≡ value.Str (text_in (out-NodeBody pair.item.body))) atom →
          R.begins place (record {
            key = codes "template";
            place = pair.item.place;
            text = text_in (out-NodeBody pair.item.body);
          }) →
          Has (Calling S (origin_at crossings place) (origin_at crossings pair.item.place)) atom
      by None is stands = tt
      by (Some one) is stands =
          λ files. (text_in (out-NodeBody pair.item.body), (is, stands))

  layer_begun :
      (place : Place) (layer : Body) → Each (Stood R place) (said_in layer) →
      Has (Begun S (origin_at crossings place))
      (head_of (literal_body crossings (roll-NodeBody layer)))
  layer_begun place (Scalar text) says =
      let is : value.Str text ≡ literal_body crossings (roll-NodeBody (Scalar text)) =
      search (rules, the_lemmas) in
      subst (λ (one : Value). Has (Begun S (origin_at crossings place)) (head_of one)) is
      (subst (Has (Begun S (origin_at crossings place))) (sym (text_head text)) tt)
  layer_begun place (Seq items) says =
      let is : value.Array (map (literal crossings) items)
      ≡ literal_body crossings (roll-NodeBody (Seq items)) = search (rules, the_lemmas) in
      subst (λ (one : Value). Has (Begun S (origin_at crossings place)) (head_of one)) is
      (subst (Has (Begun S (origin_at crossings place))) (sym (array_head _)) tt)
  layer_begun place (Map pairs) says =
      let is : value.Object (map (literal_pair crossings) pairs)
      ≡ literal_body crossings (roll-NodeBody (Map pairs)) = search (rules, the_lemmas) in
      subst (λ (one : Value). Has (Begun S (origin_at crossings place)) (head_of one)) is
      (subst (Has (Begun S (origin_at crossings place)))
      (sym (object_head (map (literal_pair crossings) pairs))) (first pairs says.1))
    where
      first : (pairs : List NodePair) → Each (Stood R place) (firsts_of pairs) →
          Has (Begun S (origin_at crossings place)) (head_in (map (literal_pair crossings) pairs))
      first [] says = tt
      first (pair ∷ pairs) says = pair_begun place pair says.0

  body_begun :
      (place : Place) (one : NodeBody) → Each (Stood R place) (said_in (out-NodeBody one)) →
      Has (Begun S (origin_at crossings place)) (head_of (literal_body crossings one))
  body_begun place one says =
      subst (λ (body : NodeBody). Has (Begun S (origin_at crossings place))
      (head_of (literal_body crossings body))) (rolled_body one)
      (layer_begun place (out-NodeBody one) says)

  of_layer :
      (layer : Body) → BodyParts NodeClaim PairClaim layer → BodyClaim (roll-NodeBody layer)
  of_layer layer claims within =
      layer_claim layer claims (subst (BodyIn R) (opened_is layer) within)

  of_node :
      (place : Place) (one : NodeBody) → BodyClaim one →
      NodeClaim (record { place = place; body = one })
  of_node place one claim within =
      let node : Node = record { place = place; body = one } in
      let is :
      record { origin = origin_at crossings place; value = literal_body crossings one }
      ≡ literal crossings node =
      search (rules, the_lemmas) in
      let parts = node_in R node within in
      subst (NodeFrom S S) is
      (node_from S S (origin_at crossings place) _ (parts.0, refl)
      (body_atom place one (node_says R node within)) (claim parts.1)
      (led_from S S (origin_at crossings place) (λ path stands. (parts.0, stands.1)) _
      (head_from S S _ (claim parts.1)) (body_begun place one (node_says R node within))))

  of_pair :
      (key : List ℕ) (key_place : Place) (item : Node) → NodeClaim item →
      PairClaim (record { key = key; key_place = key_place; item = item })
  of_pair key key_place item claim within =
      let pair : NodePair = record { key = key; key_place = key_place; item = item } in
      let is :
      record {
        key = key;
        key_origin = origin_at crossings key_place;
        item = literal crossings item;
      }
      ≡ literal_pair crossings pair =
      search (rules, the_lemmas) in
      let parts = pair_in R pair within in
      subst (PairFrom S S) is
      (pair_from S S key (origin_at crossings key_place) (literal crossings item)
      (parts.0, refl) (λ files. pair_says R pair within) (claim parts.1))

  pub literal_from : (node : Node) → NodeClaim node
  literal_from = written_induction BodyClaim NodeClaim PairClaim of_layer of_node of_pair

-- ---- a value as a type reads it: P and L are asked before it is read, Q and M behind it

module _ (P L Q M : Asked) (owns : (origin : Origin) → P.own origin → Q.own origin)
    (leads : (origin : Origin) → L.own origin → M.own origin)
    (calls : (item path : Origin) (one : Value) → Calling L item path one → Calling M item path one)
    (tells : (origin : Origin) (said : Said) → Told P origin said → Told Q origin said)
    (reads : (of : ParamKind) (origin : Origin) (before after : Value) →
    Told P origin (scalar before) → value_as of before ≡ Some after →
    Told Q origin (scalar after)) where
  abbrev Was : MarkedNode → Type 0
  Was = NodeFrom P L

  -- from before on
  kept : (node : MarkedNode) → NodeFrom P L node → NodeFrom Q M node
  kept = node_implies P Q L M owns leads calls tells

  module _ (origin : Origin) (own : Q.own origin) where
    abbrev Whole : Value → Type 0
    Whole one = NodeFrom Q M (record { origin = origin; value = one })

    abbrev Read : Option Value → Type 0
    Read = Has Whole

    abbrev Says : Value → Type 0
    Says one = Told P origin (scalar one)

    a_text : (one : Value) → Atom P origin (atom_of one) → Read (option_map value.Str (text_of one))
    a_text one told = by (text_of one) refl
      where
        by : (found : Option (List ℕ)) → text_of one ≡ found → Read (option_map value.Str found)
        by None is = tt
        by (Some text) is =
            text_node Q M origin own text
            (reads kind.String origin one (value.Str text)
            (subst (Atom P origin) (text_atom one text is) told)
            (ap (λ found. option_map value.Str found) is))

    number_read : (before : Value) → Says before → (number : Option ℤ) →
        value_as kind.Number before ≡ option_map value.Number number →
        Read (option_map value.Number number)
    number_read before told None is = tt
    number_read before told (Some number) is =
        number_node Q M origin own number
        (reads kind.Number origin before (value.Number number) told is)

    truth_read : (before : Value) → Says before → (truth : Option Bool) →
        value_as kind.Boolean before ≡ option_map value.Bool truth →
        Read (option_map value.Bool truth)
    truth_read before told None is = tt
    truth_read before told (Some truth) is =
        truth_node Q M origin own truth
        (reads kind.Boolean origin before (value.Bool truth) told is)

    a_number : (one : Value) (opened : Opened) → out-Value one ≡ opened →
        Has (λ atom. Told P origin (scalar one)) (atom_by opened) → Read (number_from opened)
    a_number one (layer.Number number) is told =
        number_read one told (Some number) (ap number_from is)
    a_number one (layer.Str []) is told = tt
    a_number one (layer.Str (byte ∷ bytes)) is told =
        number_read one told (number_in (byte ∷ bytes)) (ap number_from is)
    a_number one layer.Null is told = tt
    a_number one (layer.Bool truth) is told = tt
    a_number one (layer.Version segments) is told = tt
    a_number one (layer.Array items) is told = tt
    a_number one (layer.Object pairs) is told = tt

    a_boolean : (one : Value) (opened : Opened) → out-Value one ≡ opened →
        Has (λ atom. Told P origin (scalar one)) (atom_by opened) → Read (boolean_from opened)
    a_boolean one (layer.Bool truth) is told = truth_read one told (Some truth) (ap boolean_from is)
    a_boolean one (layer.Str text) is told =
        truth_read one told (boolean_in text) (ap boolean_from is)
    a_boolean one layer.Null is told = tt
    a_boolean one (layer.Number number) is told = tt
    a_boolean one (layer.Version segments) is told = tt
    a_boolean one (layer.Array items) is told = tt
    a_boolean one (layer.Object pairs) is told = tt

    where_so : (b : Bool) (one : Value) → Whole one → Read (cond b (Some one) None)
    where_so true one all = all
    where_so false one all = tt

    some_items : (wanted : ItemKind) (opened : Opened) → OpenedFrom Q M opened →
        Read (items_from wanted opened)
    some_items wanted layer.Null all = array_node Q M origin own [] tt
    some_items wanted (layer.Str []) all = array_node Q M origin own [] tt
    some_items wanted (layer.Str (byte ∷ bytes)) all = tt
    some_items wanted (layer.Array items) all =
        where_so (list_all (λ node. is_item wanted node.value) items) (value.Array items)
        (array_node Q M origin own items all)
    some_items wanted (layer.Bool truth) all = tt
    some_items wanted (layer.Number number) all = tt
    some_items wanted (layer.Version segments) all = tt
    some_items wanted (layer.Object pairs) all = tt

    below : (one : Value) → Whole one → OpenedFrom Q M (out-Value one)
    below one all =
        value_parts Q M one (node_parts Q M (record { origin = origin; value = one }) all).1

    -- the atom is the whole value
    own_atom : (one : Value) (atom : Option Value) → Has (λ atom. atom ≡ one) atom →
        Atom P origin atom → Has (λ atom. Told P origin (scalar one)) atom
    own_atom one None is told = tt
    own_atom one (Some atom) is told = subst (λ (one : Value). Told P origin (scalar one)) is told

    whole_atom : (one : Value) → Was (record { origin = origin; value = one }) →
        Has (λ atom. Told P origin (scalar one)) (atom_by (out-Value one))
    whole_atom one all =
        own_atom one (atom_of one) (atom_value one)
        (node_told P L (record { origin = origin; value = one }) all)

    value_read : (of : ParamKind) (one : Value) → Was (record { origin = origin; value = one }) →
        Read (value_as of one)
    value_read kind.String one all =
        a_text one (node_told P L (record { origin = origin; value = one }) all)
    value_read kind.Number one all = a_number one (out-Value one) refl (whole_atom one all)
    value_read kind.Boolean one all = a_boolean one (out-Value one) refl (whole_atom one all)
    value_read kind.Object one all = kept _ all
    value_read kind.Step one all = where_so (is_item item.Step one) one (kept _ all)
    value_read kind.StepList one all = some_items item.Step (out-Value one) (below one (kept _ all))
    value_read kind.Job one all = where_so (is_item item.Job one) one (kept _ all)
    value_read kind.JobList one all = some_items item.Job (out-Value one) (below one (kept _ all))
    value_read kind.Deployment one all = where_so (is_item item.Deployment one) one (kept _ all)
    value_read kind.DeploymentList one all =
        some_items item.Deployment (out-Value one) (below one (kept _ all))
    value_read kind.Stage one all = where_so (is_item item.Stage one) one (kept _ all)
    value_read kind.StageList one all =
        some_items item.Stage (out-Value one) (below one (kept _ all))

  abbrev JudgedFrom : Judged → Type 0
  JudgedFrom (Fits node) = NodeFrom Q M node
  JudgedFrom NotOfType = Unit {0}
  JudgedFrom NotAllowed = Unit {0}

  allowed_from : (b : Bool) (node : MarkedNode) → NodeFrom Q M node →
      JudgedFrom (cond b (Fits node) NotAllowed)
  allowed_from true node all = all
  allowed_from false node all = tt

  judged_by :
      (of : ParamKind) (entries : List Node) (read : Option MarkedNode) →
      Has (NodeFrom Q M) read → JudgedFrom (judged_read of entries read)
  judged_by of entries None has = tt
  judged_by of entries (Some node) has = allowed_from (allows of entries node.value) node has

  judged_from :
      (of : ParamKind) (entries : List Node) (node : MarkedNode) → NodeFrom P L node →
      JudgedFrom (judged of entries node)
  judged_from of entries node all =
      let own = owns node.origin (node_parts P L node all).0 in
      judged_by of entries (read_as of node)
      (has_map (Whole node.origin own) (NodeFrom Q M) (with_value node) (λ one whole. whole)
      (value_as of node.value) (value_read node.origin own of node.value all))

-- ---- one after the other

turns_from :
    {X Y : Type 0} (A : X → Type 0) (B : Y → Type 0) (make : List Y → X → Result Y Complaint) →
    ((made : List Y) (x : X) → A x → IfOk (make made x) B) → (made : List Y) (xs : List X) →
    Each B made → Each A xs → IfOk (in_turn make made xs) (Each B)
turns_from A B make makes made [] before all = before
turns_from A B make makes made (x ∷ xs) before all =
    by (make made x) (makes made x all.0)
    (λ one is. turns_from A B make makes (made ++ one ∷ []) xs
    (each_append B made (one ∷ []) before (is, tt)) all.1)
  where
    by : (one : Result _ Complaint) → IfOk one B →
        ((one : _) → B one → IfOk (in_turn make (made ++ one ∷ []) xs) (Each B)) →
        IfOk (one >>= λ one. in_turn make (made ++ one ∷ []) xs) (Each B)
    by (Ok one) is goes = goes one is
    by (Err complaint) is goes = tt

-- ---- declarations stand in the file

module _ (R : Site) where
  abbrev pub ParamIn : Param → Type 0
  ParamIn param =
      (R.at param.place × R.says param.place (key_said param.name)) × Has (NodeIn R) param.default

  unless_in : (first : Option Complaint) (param : Param) → ParamIn param →
      IfOk (unless first param) ParamIn
  unless_in None param within = within
  unless_in (Some complaint) param within = tt

  default_in : (key : List ℕ) (pairs : List NodePair) → Each (PairIn R) pairs →
      Has (NodeIn R) (under key pairs)
  default_in key pairs all =
      has_map (PairIn R) (NodeIn R) (λ pair. pair.item) (λ pair within. (pair_in R pair within).1)
      (find (λ pair. is pair.key key) pairs)
      (each_found (PairIn R) (λ pair. is pair.key key) pairs all)

  item_in_file :
      (before : List Param) (node : Node) (body : Body) → R.at node.place →
      Each (Stood R node.place) (said_in body) → BodyIn R body →
      IfOk (item_from before node body) ParamIn
  item_in_file before node (Scalar text) stands says below = tt
  item_in_file before node (Seq items) stands says below = tt
  item_in_file before node (Map pairs) stands says below =
      unless_in (first_of (complaints_of before node.place pairs)) (written_param node.place pairs)
      ((stands, says.0), default_in (codes "default") pairs below)

  item_param_in : (before : List Param) (node : Node) → NodeIn R node →
      IfOk (item_param before node) ParamIn
  item_param_in before node within =
      let parts = node_in R node within in
      item_in_file before node (out-NodeBody node.body) parts.0 (node_says R node within) parts.1

  pair_param_in : (before : List Param) (pair : NodePair) → PairIn R pair →
      IfOk (pair_param before pair) ParamIn
  pair_param_in before pair within =
      let parts = pair_in R pair within in
      unless_in (pair_complaint before pair) (object_param pair)
      ((parts.0, pair_says R pair within), parts.1)

  declares_in : (node : Node) (body : Body) → BodyIn R body →
      IfOk (declares_from node body) (Each ParamIn)
  declares_in node (Scalar text) below = tt
  declares_in node (Seq items) below =
      turns_from (NodeIn R) ParamIn item_param item_param_in [] items tt below
  declares_in node (Map pairs) below =
      turns_from (PairIn R) ParamIn pair_param pair_param_in [] pairs tt below

-- ---- what is bound

-- in a file, behind no border yet
abbrev InFile : Site → Asked → Asked
InFile R Q = record {
  own = λ origin. R.at origin.source × (origin.crossings ≡ []);
  says = Q.says;
  calls = Q.calls;
}

-- an item of a default, as it is written
written_calls :
    (R : Site) (Q : Asked) → Reads R Q → (item path : Origin) (one : Value) →
    Calling (Stands R []) item path one → Calling (InFile R Q) item path one
written_calls R Q reads item path one calls files =
    let is = calls files in
    subst (Q.calls item.source path.source) (sym is.1.0)
    (reads.calls item.source path.source is.0 is.1.1)

-- G and M are asked of what is given, and Q of the frame that it is bound in
module _ (G M Q : Asked) (R : Site) (reads : Reads R Q)
    (taken : (of : ParamKind) (origin : Origin) (before after : Value) →
    Told G origin (scalar before) → value_as of before ≡ Some after →
    Told G origin (scalar after)) where
  -- what was given, and what is the default, in its file
  abbrev BoundBy : Bool → MarkedNode → Type 0
  BoundBy true node = NodeFrom G M node
  BoundBy false node = NodeFrom (InFile R Q) (InFile R Q) node

  abbrev pub BoundFrom : Bound → Type 0
  BoundFrom one = BoundBy one.given one.value

  abbrev pub GivenFrom : Given → Type 0
  GivenFrom one = NodeFrom G M one.value

  default_by :
      (param : Param) (node : Node) (judgement : Judged) →
      JudgedFrom (Stands R []) (Stands R []) (InFile R Q) (InFile R Q)
      (λ origin stands. stands) (λ origin stands. stands) (written_calls R Q reads)
      (λ origin said told files. reads.says origin.source said (told files))
      (λ of origin before after told is files.
      reads.default origin.source of before after (told files) is) judgement →
      IfOk (default_judged param node judgement) BoundFrom
  default_by param node (Fits one) all = all
  default_by param node NotOfType all = tt
  default_by param node NotAllowed all = tt

  default_from :
      (param : Param) (written : Option Node) → Has (NodeIn R) written →
      IfOk (bound_default param written) BoundFrom
  default_from param None within = tt
  default_from param (Some node) within =
      default_by param node (judged param.kind param.values (literal [] node))
      (judged_from (Stands R []) (Stands R []) (InFile R Q) (InFile R Q)
      (λ origin stands. stands) (λ origin stands. stands) (written_calls R Q reads)
      (λ origin said told files. reads.says origin.source said (told files))
      (λ of origin before after told is files.
      reads.default origin.source of before after (told files) is)
      param.kind param.values (literal [] node) (literal_from R [] node within))

  given_by :
      (param : Param) (given : Given) (judgement : Judged) →
      JudgedFrom G M G M (λ origin own. own) (λ origin own. own)
      (λ item path one calls. calls) (λ origin said told. told) taken judgement →
      IfOk (given_judged param given judgement) BoundFrom
  given_by param given (Fits one) all = all
  given_by param given NotOfType all = tt
  given_by param given NotAllowed all = tt

  bound_by :
      (param : Param) (given : Option Given) → ParamIn R param → Has GivenFrom given →
      IfOk (bound_from param given) BoundFrom
  bound_by param None within all = default_from param param.default within.1
  bound_by param (Some given) within all =
      given_by param given (judged param.kind param.values given.value)
      (judged_from G M G M (λ origin own. own) (λ origin own. own)
      (λ item path one calls. calls) (λ origin said told. told) taken
      param.kind param.values given.value all)

  param_bound :
      (given : List Given) → Each GivenFrom given → (before : List Bound) (param : Param) →
      ParamIn R param → IfOk (bound_param given before param) BoundFrom
  param_bound given all before param within =
      bound_by param (given_for given param) within
      (each_found GivenFrom (λ one. spells param.name one.name) given all)

  binds_by :
      (stray : Option Given) (declared : List Param) (given : List Given) →
      Each (ParamIn R) declared → Each GivenFrom given →
      IfOk (binds_unless stray declared given) (Each BoundFrom)
  binds_by None declared given within all =
      turns_from (ParamIn R) BoundFrom (bound_param given) (param_bound given all) [] declared tt
      within
  binds_by (Some one) declared given within all = tt

-- what is bound has the names of what is declared
abbrev param_names : List Param → List (List ℕ)
param_names = map (λ param. param.name)

abbrev bound_names : List Bound → List (List ℕ)
bound_names = map (λ bound. bound.name)

abbrev IsNamed : Param → Bound → Type 0
IsNamed param one = one.name ≡ param.name

default_named :
    (param : Param) (node : Node) (judgement : Judged) →
    IfOk (default_judged param node judgement) (IsNamed param)
default_named param node (Fits one) = refl
default_named param node NotOfType = tt
default_named param node NotAllowed = tt

missing_named :
    (param : Param) (written : Option Node) → IfOk (bound_default param written) (IsNamed param)
missing_named param None = tt
missing_named param (Some node) =
    default_named param node (judged param.kind param.values (literal [] node))

given_named :
    (param : Param) (given : Given) (judgement : Judged) →
    IfOk (given_judged param given judgement) (IsNamed param)
given_named param given (Fits one) = refl
given_named param given NotOfType = tt
given_named param given NotAllowed = tt

one_named :
    (param : Param) (given : Option Given) → IfOk (bound_from param given) (IsNamed param)
one_named param None = missing_named param param.default
one_named param (Some given) =
    given_named param given (judged param.kind param.values given.value)

one_more :
    (made : List Bound) (one : Bound) (param : Param) (params : List Param) →
    one.name ≡ param.name →
    bound_names (made ++ one ∷ []) ++ param_names params
    ≡ bound_names made ++ param.name ∷ param_names params
one_more [] one param params is = ap (λ name. name ∷ param_names params) is
one_more (first ∷ made) one param params is =
    ap (λ names. first.name ∷ names) (one_more made one param params is)

nothing_more : (names : List (List ℕ)) → names ++ [] ≡ names
nothing_more [] = refl
nothing_more (name ∷ names) = ap (λ names. name ∷ names) (nothing_more names)

named_then :
    (step : Result (List Bound) Complaint) (now then : List (List ℕ)) →
    IfOk step (λ all. bound_names all ≡ now) → now ≡ then →
    IfOk step (λ all. bound_names all ≡ then)
named_then (Ok all) now then is same = is ∙ same
named_then (Err complaint) now then is same = tt

all_named :
    (given : List Given) (made : List Bound) (params : List Param) →
    IfOk (in_turn (bound_param given) made params)
    (λ all. bound_names all ≡ bound_names made ++ param_names params)
all_named given made [] = sym (nothing_more (bound_names made))
all_named given made (param ∷ params) =
    by (bound_param given made param) (one_named param (given_for given param))
    (λ one. all_named given (made ++ one ∷ []) params)
  where
    by : (step : Result Bound Complaint) → IfOk step (IsNamed param) →
        ((one : Bound) → IfOk (in_turn (bound_param given) (made ++ one ∷ []) params)
        (λ all. bound_names all ≡ bound_names (made ++ one ∷ []) ++ param_names params)) →
        IfOk (step >>= λ one. in_turn (bound_param given) (made ++ one ∷ []) params)
        (λ all. bound_names all ≡ bound_names made ++ param.name ∷ param_names params)
    by (Ok one) is goes =
        named_then (in_turn (bound_param given) (made ++ one ∷ []) params)
        (bound_names (made ++ one ∷ []) ++ param_names params)
        (bound_names made ++ param.name ∷ param_names params) (goes one)
        (one_more made one param params is)
    by (Err complaint) is goes = tt

parameter_ok :
    {X : Type 0} (Q : X → Type 0) (told : Result X Complaint) → IfOk told Q →
    IfOk (parameter_told told) Q
parameter_ok Q (Ok x) holds = holds
parameter_ok Q (Err complaint) holds = tt

both_ok :
    {X E : Type 0} (A B : X → Type 0) (step : Result X E) → IfOk step A → IfOk step B →
    IfOk step (λ x. A x × B x)
both_ok A B (Ok x) left right = (left, right)
both_ok A B (Err fault) left right = tt

pub declared_in :
    (R : Site) (node : Option Node) → Has (NodeIn R) node →
    IfOk (declared_by node) (Each (ParamIn R))
declared_in R None within = tt
declared_in R (Some node) within =
    parameter_ok (Each (ParamIn R)) (declares node)
    (declares_in R node (out-NodeBody node.body) (node_in R node within).1)

-- ---- the parameters of a frame

-- what is given has Q once an expression took it; and of what it says nothing is asked, since an
-- argument gave it
abbrev pub Takeable : Asked → Site → Asked
Takeable Q R = only (λ origin. (name : List ℕ) (place : Place) → R.at place →
    Q.own (across (Argument name place) origin))

module _ (Q : Asked) (R : Site) (reads : Reads R Q) where
  abbrev GivenIn : Asked
  GivenIn = Takeable (Seen Q R) R

  abbrev CallIn : Asked
  CallIn = Takeable Q R

  abbrev pub BoundIn : Bound → Type 0
  BoundIn = BoundFrom GivenIn CallIn Q R reads (λ of origin before after told is files. tt)

  -- what is bound to the declared parameters, one after the other, by their names
  abbrev pub AreBound : List Param → List Bound → Type 0
  AreBound declared bound = Each BoundIn bound × (bound_names bound ≡ param_names declared)

  named_by :
      (stray : Option Given) (declared : List Param) (given : List Given) →
      IfOk (binds_unless stray declared given)
      (λ all. bound_names all ≡ param_names declared)
  named_by None declared given = all_named given [] declared
  named_by (Some one) declared given = tt

  pub bound_to_from :
      (declared : List Param) (given : List Given) → Each (ParamIn R) declared →
      Each (λ (one : Given). NodeFrom GivenIn CallIn one.value) given →
      IfOk (bound_to declared given) (AreBound declared)
  bound_to_from declared given within all =
      parameter_ok (AreBound declared) (binds declared given)
      (both_ok (Each BoundIn) (λ all. bound_names all ≡ param_names declared)
      (binds declared given)
      (binds_by GivenIn CallIn Q R reads (λ of origin before after told is files. tt)
      (unexpected declared given) declared given within all)
      (named_by (unexpected declared given) declared given))

module _ (Q : Asked) (R : Site) (reads : Reads R Q) (crossings : List Crossing)
    (literal_is : (place : Place) → R.at place →
    Q.own (record { source = place; crossings = crossings })) where
  parameter_by :
      (given : Bool) (name : List ℕ) (place : Place) (one : MarkedNode) →
      BoundBy (GivenIn Q R reads) (CallIn Q R reads) Q R reads
      (λ of origin before after told is files. tt) given one → (at : Place) → R.at at →
      SeenFrom Q R (taken at (record {
        name = name;
        place = place;
        value = cond given one (moved (crossed crossings) one);
        given = given;
      }))
  parameter_by true name place one all at stands =
      moved_from (GivenIn Q R reads) (Seen Q R) (CallIn Q R reads) Q (across (Argument name at))
      (λ origin takes. takes name at stands) (λ origin takes. takes name at stands)
      (λ item path. refl)
      (λ item path one own calls. none_calling Q (across (Argument name at) item) path
      path.crossings (Argument name at) one (λ none. none))
      (λ origin said own told. none_told Q origin.crossings (Argument name at) origin.source said
      (λ none. none)) one all
  parameter_by false name place one all at stands =
      moved_from (InFile R Q) (Seen Q R) (InFile R Q) Q
      (crossed crossings) (λ origin within. (literal_is origin.source within.0, literal_is))
      (λ origin within. literal_is origin.source within.0) (λ item path. refl)
      (λ item path one within calls files.
      calls (subst (λ (crossings : List Crossing). Each IsOfFiles crossings) (sym within.1) tt))
      (λ origin said within told files.
      told (subst (λ (crossings : List Crossing). Each IsOfFiles crossings) (sym within.1) tt))
      one all

  pub parameters_from :
      (declared : List Param) (bound : List Bound) → Each (ParamIn R) declared →
      AreBound Q R reads declared bound →
      Each (ParameterFrom Q R) (parameters_of crossings declared bound)
  parameters_from [] bound within all = tt
  parameters_from (param ∷ declared) [] within all = tt
  parameters_from (param ∷ declared) (one ∷ bound) within all =
      let named : one.name ≡ param.name = cc (all.1) in
      let others : bound_names bound ≡ param_names declared = cc (all.1) in (
        (
          (
            within.0.0.0,
            subst (λ (name : List ℕ). Q.says param.place (key_said name)) (sym named)
                (reads.says param.place (key_said param.name) within.0.0.1),
          ),
          λ at stands. parameter_by one.given one.name param.place one.value all.0.0 at
              stands,
        ),
        parameters_from declared bound within.1 (all.0.1, others),
      )
