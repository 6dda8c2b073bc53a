-- What an expression gives, where predicates hold of all that names hold.
use Rattle.std.proofs.Common.{◌≡◌, ℕ, zero, suc, ℤ, pos, negsuc, Bool, true, false, cond}
use Rattle.std.proofs.Common.{Option, Some, None, Result, Ok, Err, List, [], ◌∷◌, map}
use Rattle.std.proofs.Common.{refl, subst, rules}
use Rattle.std.specs.Prelude.{IfOk, unwrap_or, find}
use Rattle.std.specs.Option.{option_and_then}
use Rattle.std.specs.List.{AllByRecursion as Each}
use Rattle.pl_base.specs.declared.origin.Origin.{Origin}
use Rattle.pl_base.specs.declared.value.Value.{Value, Null, Bool as Truth, Number, Version, Str}
use Rattle.pl_base.specs.declared.value.Value.{out-Value}
use Rattle.pl_base.specs.declared.value.Value.TheOpen as open_value
use Rattle.pl_base.specs.declared.value.MarkedNode.{MarkedNode}
use Rattle.pl_base.specs.declared.value.MarkedPair.{MarkedPair}
use Rattle.pl_expr.specs.Conversions.{bool_of, is_null, number_of_value, text_of}
use Rattle.pl_expr.specs.declared.expr.Expr.{Expr, the_lemmas}
use Rattle.pl_expr.specs.declared.expr.Expr.TheOpen.{Expr-F}
use Rattle.pl_expr.specs.declared.expr.Expr.TheOpen as layer
use Rattle.pl_expr.specs.declared.expr.Expr.TheViews.{out-Expr, roll-Expr}
use Rattle.pl_expr.specs.declared.expr.Function.{Function}
use Rattle.pl_expr.specs.declared.expr.Mode.{Mode}
use Rattle.pl_expr.specs.Given.{IsLiteral, AreGiven, IsGivenBy, IsGiven}
use Rattle.pl_expr.proofs.Again.{layer_is}
use Rattle.pl_texts.specs.declared.fault.TextFault.{TextFault}
use Rattle.pl_eval.specs.declared.fault.EvalCode.{EvalCode}
use Rattle.pl_eval.specs.declared.manner.Manner.{Manner}
use Rattle.pl_eval.specs.declared.manner.Manner.TheVariants as manner
use Rattle.pl_eval.specs.declared.manner.Operation.{Operation}
use Rattle.pl_eval.specs.declared.manner.Operation.TheVariants as operation
use Rattle.pl_eval.specs.declared.manner.UnaryFunction.{UnaryFunction}
use Rattle.pl_eval.specs.declared.manner.UnaryFunction.TheVariants as unary
use Rattle.pl_eval.specs.declared.manner.BinaryFunction.{BinaryFunction}
use Rattle.pl_eval.specs.declared.manner.BinaryFunction.TheVariants as binary
use Rattle.pl_eval.specs.Known.{Known, same_name, root_of}
use Rattle.pl_eval.specs.LookUps.{Opened, made, property, item_at, found_in, found, looked_up}
use Rattle.pl_eval.specs.LookUps.{member_in, member, member_behind, items_in, items_of, projected}
use Rattle.std.specs.declared.cmp.Ordering.{Ordering}
use Rattle.std.specs.Ordering.{is_lt, is_le, is_gt, is_ge}
use Rattle.pl_eval.specs.Texts.{text_value, texts_value}
use Rattle.pl_eval.specs.Applied.{length_in, ordered, of_one, of_two, value_at, applied}
use Rattle.pl_eval.specs.Means.{Meaning, argument, first_filled}
use Rattle.pl_eval.specs.Means.{answer, truth, told, contrary}
use Rattle.pl_eval.specs.Means.{chosen, status, called_by, called, manner_of, rooted, indexed}
use Rattle.pl_eval.specs.Means.{means}
use Rattle.pl_reading.specs.Steps.{◌>>=◌}
use Rattle.pl_eval_laws.proofs.Lists.{Has, has_map, has_next, each_found, each_at, each_map}
use Rattle.pl_eval_laws.proofs.Lists.{each_filter_map}
use Rattle.pl_eval_laws.specs.Marks.{Said}
use Rattle.pl_eval_laws.proofs.Trees.{Asked, Told, NodeFrom, PairFrom, OpenedFrom, null_node}
use Rattle.pl_eval_laws.proofs.Trees.{truth_node}
use Rattle.pl_eval_laws.proofs.Trees.{number_node, version_node, text_node, array_node, node_parts}
use Rattle.pl_eval_laws.proofs.Trees.{pair_parts, value_parts}

-- ---- what is found in a value comes from it

module _ (P L : Asked) where
  item_of : (pair : MarkedPair) → PairFrom P L pair → NodeFrom P L pair.item
  item_of pair all = (pair_parts P L pair all).1

  property_from :
      (pairs : List MarkedPair) (name : List ℕ) → Each (PairFrom P L) pairs →
      Has (NodeFrom P L) (property pairs name)
  property_from pairs name all =
      has_map (PairFrom P L) (NodeFrom P L) (λ pair. pair.item) item_of
      (find (λ pair. same_name name pair.key) pairs)
      (each_found (PairFrom P L) (λ pair. same_name name pair.key) pairs all)

  item_from :
      (items : List MarkedNode) (at : ℤ) → Each (NodeFrom P L) items →
      Has (NodeFrom P L) (item_at items at)
  item_from items (pos at) all = each_at (NodeFrom P L) items at all
  item_from items (negsuc at) all = tt

  some_item_from :
      (items : List MarkedNode) (at : Option ℤ) → Each (NodeFrom P L) items →
      Has (NodeFrom P L) (option_and_then (item_at items) at)
  some_item_from items None all = tt
  some_item_from items (Some at) all = item_from items at all

  some_property_from :
      (pairs : List MarkedPair) (name : Option (List ℕ)) → Each (PairFrom P L) pairs →
      Has (NodeFrom P L) (option_and_then (property pairs) name)
  some_property_from pairs None all = tt
  some_property_from pairs (Some name) all = property_from pairs name all

  found_from :
      (of : Opened) (at : Value) → OpenedFrom P L of → Has (NodeFrom P L) (found_in of at)
  found_from (open_value.Array items) at all = some_item_from items (number_of_value at) all
  found_from (open_value.Object pairs) at all = some_property_from pairs (text_of at) all
  found_from open_value.Null at all = tt
  found_from (open_value.Bool is) at all = tt
  found_from (open_value.Number number) at all = tt
  found_from (open_value.Version segments) at all = tt
  found_from (open_value.Str text) at all = tt

  member_from :
      (of : Opened) (name : List ℕ) → OpenedFrom P L of → Has (NodeFrom P L) (member_in of name)
  member_from (open_value.Object pairs) name all = property_from pairs name all
  member_from (open_value.Array items) name all = tt
  member_from open_value.Null name all = tt
  member_from (open_value.Bool is) name all = tt
  member_from (open_value.Number number) name all = tt
  member_from (open_value.Version segments) name all = tt
  member_from (open_value.Str text) name all = tt

  below_from : (node : MarkedNode) → NodeFrom P L node → OpenedFrom P L (out-Value node.value)
  below_from node all = value_parts P L node.value (node_parts P L node all).1

  member_behind_from :
      (names : List (List ℕ)) (node : MarkedNode) → NodeFrom P L node →
      Has (NodeFrom P L) (member_behind names node)
  member_behind_from [] node all = all
  member_behind_from (name ∷ names) node all =
      has_next (NodeFrom P L) (NodeFrom P L) (member_behind names) (member_behind_from names)
      (member name node.value) (member_from (out-Value node.value) name (below_from node all))

  items_from : (of : Opened) → OpenedFrom P L of → Each (NodeFrom P L) (items_in of)
  items_from (open_value.Array items) all = all
  items_from (open_value.Object pairs) all =
      each_map (PairFrom P L) (NodeFrom P L) (λ pair. pair.item) item_of pairs all
  items_from open_value.Null all = tt
  items_from (open_value.Bool is) all = tt
  items_from (open_value.Number number) all = tt
  items_from (open_value.Version segments) all = tt
  items_from (open_value.Str text) all = tt

  projected_from :
      (names : List (List ℕ)) (node : MarkedNode) → NodeFrom P L node → (here : Origin) → P.own here
      →
      NodeFrom P L (made here (projected names node.value))
  projected_from names node all here own_here =
      array_node P L here own_here _ (each_filter_map (NodeFrom P L) (NodeFrom P L)
      (member_behind names) (member_behind_from names) (items_of node.value)
      (items_from (out-Value node.value) (below_from node all)))

-- ---- the functions that look at the values of all arguments make atoms, and `split` texts

module _ (P L : Asked) (here : Origin) (own_here : P.own here)
    (told_here : (said : Said) → Told P here said) where
  abbrev Made : Value → Type 0
  Made one = NodeFrom P L (made here one)

  literal_from : (one : Value) → IsLiteral one → Made one
  literal_from (Truth truth) is = truth_node P L here own_here truth (told_here _)
  literal_from (Number number) is = number_node P L here own_here number (told_here _)
  literal_from (Version segments) is = version_node P L here own_here segments (told_here _)
  literal_from (Str text) is = text_node P L here own_here text (told_here _)
  literal_from one is = absurd is

  text_made : (text : Result (List ℕ) TextFault) → IfOk (text_value text) Made
  text_made (Ok text) = text_node P L here own_here text (told_here _)
  text_made (Err fault) = tt

  each_text_made :
      (texts : List (List ℕ)) → Each (NodeFrom P L) (map (λ text. made here (Str text)) texts)
  each_text_made [] = tt
  each_text_made (text ∷ texts) = (
    text_node P L here own_here text (told_here _),
    each_text_made
        texts,
  )

  texts_made :
      (texts : Result (List (List ℕ)) TextFault) → IfOk (texts_value here texts) Made
  texts_made (Ok texts) = array_node P L here own_here _ (each_text_made texts)
  texts_made (Err fault) = tt

  length_made : (of : Opened) → IfOk (length_in of) Made
  length_made (open_value.Str text) = number_node P L here own_here _ (told_here _)
  length_made (open_value.Array items) = number_node P L here own_here _ (told_here _)
  length_made (open_value.Object pairs) = tt
  length_made open_value.Null = tt
  length_made (open_value.Bool is) = tt
  length_made (open_value.Number number) = tt
  length_made (open_value.Version segments) = tt

  compared_made :
      (test : Ordering → Bool) (order : Result Ordering EvalCode) →
      IfOk (order >>= λ order. Ok (Truth (test order))) Made
  compared_made test (Ok order) = truth_node P L here own_here (test order) (told_here _)
  compared_made test (Err code) = tt

  one_made : (function : UnaryFunction) (one : Value) → IfOk (of_one function one) Made
  one_made unary.Not one = truth_node P L here own_here _ (told_here _)
  one_made unary.Length one = length_made (out-Value one)
  one_made unary.Lower one = text_made _
  one_made unary.Upper one = text_made _
  one_made unary.Trim one = text_made _

  two_made :
      (function : BinaryFunction) (left right : Value) →
      IfOk (of_two here function left right) Made
  two_made binary.Xor left right = truth_node P L here own_here _ (told_here _)
  two_made binary.Eq left right = truth_node P L here own_here _ (told_here _)
  two_made binary.Ne left right = truth_node P L here own_here _ (told_here _)
  two_made binary.Lt left right = compared_made is_lt (ordered left right)
  two_made binary.Le left right = compared_made is_le (ordered left right)
  two_made binary.Gt left right = compared_made is_gt (ordered left right)
  two_made binary.Ge left right = compared_made is_ge (ordered left right)
  two_made binary.Contains left right = truth_node P L here own_here _ (told_here _)
  two_made binary.StartsWith left right = truth_node P L here own_here _ (told_here _)
  two_made binary.EndsWith left right = truth_node P L here own_here _ (told_here _)
  two_made binary.ContainsValue left right = truth_node P L here own_here _ (told_here _)
  two_made binary.Join left right = text_made _
  two_made binary.Split left right = texts_made _

  applied_made :
      (operation : Operation) (nodes : List MarkedNode) →
      IfOk (applied here operation nodes) Made
  applied_made (operation.One function) nodes = one_made function (value_at nodes 0)
  applied_made (operation.Two function) nodes =
      two_made function (value_at nodes 0) (value_at nodes 1)
  applied_made operation.Replace nodes = text_made _
  applied_made operation.Format nodes = text_made _

  -- ---- calls

  answer_from : (one : Result Value EvalCode) → IfOk one Made →
      IfOk (one >>= answer here) (NodeFrom P L)
  answer_from (Ok one) whole = whole
  answer_from (Err code) whole = tt

  told_from : (is : Result Bool EvalCode) → IfOk (told here is) (NodeFrom P L)
  told_from (Ok is) = truth_node P L here own_here is (told_here _)
  told_from (Err code) = tt

  contrary_from : (is : Result Bool EvalCode) → IfOk (contrary here is) (NodeFrom P L)
  contrary_from (Ok is) = truth_node P L here own_here _ (told_here _)
  contrary_from (Err code) = tt

  argument_from :
      (arguments : List Meaning) (at : ℕ) → Each (λ one. IfOk one (NodeFrom P L)) arguments →
      IfOk (argument here arguments at) (NodeFrom P L)
  argument_from [] at all = null_node P L here own_here (told_here _)
  argument_from (first ∷ arguments) zero all = all.0
  argument_from (first ∷ arguments) (suc at) all = argument_from arguments at all.1

  one_of :
      (b : Bool) (left right : Meaning) → IfOk left (NodeFrom P L) → IfOk right (NodeFrom P L) →
      IfOk (cond b left right) (NodeFrom P L)
  one_of true left right from_left from_right = from_left
  one_of false left right from_left from_right = from_right

  chosen_by :
      (condition : Meaning) (left right : Meaning) → IfOk left (NodeFrom P L) →
      IfOk right (NodeFrom P L) →
      IfOk (condition >>= λ condition. cond (bool_of condition.value) left right) (NodeFrom P L)
  chosen_by (Ok condition) left right from_left from_right =
      one_of (bool_of condition.value) left right from_left from_right
  chosen_by (Err code) left right from_left from_right = tt

  chosen_from :
      (arguments : List Meaning) → Each (λ one. IfOk one (NodeFrom P L)) arguments →
      IfOk (chosen here arguments) (NodeFrom P L)
  chosen_from arguments all =
      chosen_by (argument here arguments 0) (argument here arguments 1)
      (argument here arguments 2) (argument_from arguments 1 all) (argument_from arguments 2 all)

  first_by :
      (first rest : Meaning) → IfOk first (NodeFrom P L) → IfOk rest (NodeFrom P L) →
      IfOk (first >>= λ node. cond (is_null node.value) rest (Ok node)) (NodeFrom P L)
  first_by (Ok node) rest from_first from_rest =
      one_of (is_null node.value) rest (Ok node) from_rest from_first
  first_by (Err code) rest from_first from_rest = tt

  first_from :
      (arguments : List Meaning) → Each (λ one. IfOk one (NodeFrom P L)) arguments →
      IfOk (first_filled here arguments) (NodeFrom P L)
  unfolding first_filled
  first_from [] all = null_node P L here own_here (told_here _)
  first_from (first ∷ arguments) all =
      first_by first (first_filled here arguments) all.0 (first_from arguments all.1)

  status_from :
      (known : Known) (function : Function) (nodes : Result (List MarkedNode) EvalCode) →
      IfOk (nodes >>= status known here function) (NodeFrom P L)
  status_from known function (Ok nodes) = truth_node P L here own_here _ (told_here _)
  status_from known function (Err code) = tt

  strict_from :
      (operation : Operation) (nodes : Result (List MarkedNode) EvalCode) →
      IfOk (nodes >>= λ nodes. applied here operation nodes >>= answer here) (NodeFrom P L)
  strict_from operation (Ok nodes) =
      answer_from (applied here operation nodes) (applied_made operation nodes)
  strict_from operation (Err code) = tt

  called_from :
      (by : Manner) (known : Known) (function : Function) (arguments : List Meaning) →
      Each (λ one. IfOk one (NodeFrom P L)) arguments →
      IfOk (called_by by known here function arguments) (NodeFrom P L)
  called_from manner.Choosing known function arguments all = chosen_from arguments all
  called_from manner.All known function arguments all = told_from _
  called_from manner.Any known function arguments all = told_from _
  called_from manner.First known function arguments all = first_from arguments all
  called_from manner.Among known function arguments all = told_from _
  called_from manner.NotAmong known function arguments all = contrary_from _
  called_from manner.Status known function arguments all = status_from known function _
  called_from (manner.Strict operation) known function arguments all = strict_from operation _

  -- ---- expressions

  looked_from :
      (found : Option MarkedNode) → Has (NodeFrom P L) found →
      NodeFrom P L (unwrap_or found (made here Null))
  looked_from None has = null_node P L here own_here (told_here _)
  looked_from (Some node) has = has

  looked_up_from :
      (of at : MarkedNode) → NodeFrom P L of → NodeFrom P L (looked_up here of.value at.value)
  looked_up_from of at all =
      looked_from (found of.value at.value)
      (found_from P L (out-Value of.value) at.value (below_from P L of all))

  indexed_from :
      (of at : Meaning) → IfOk of (NodeFrom P L) → IfOk (indexed here of at) (NodeFrom P L)
  indexed_from (Ok of) (Ok at) from_of = looked_up_from of at from_of
  indexed_from (Ok of) (Err code) from_of = tt
  indexed_from (Err code) at from_of = tt

  project_from :
      (of : Meaning) (names : List (List ℕ)) → IfOk of (NodeFrom P L) →
      IfOk (of >>= λ node. answer here (projected names node.value)) (NodeFrom P L)
  project_from (Ok of) names from_of = projected_from P L names of from_of here own_here
  project_from (Err code) names from_of = tt

  module _ (known : Known)
      (held : (name : List ℕ) (root : MarkedNode) → root_of known name ≡ Some root →
      NodeFrom P L root) where
    root_by :
        (name : List ℕ) (root : Option MarkedNode) → root_of known name ≡ root →
        IfOk (rooted root) (NodeFrom P L)
    root_by name None is = tt
    root_by name (Some root) is = held name root is

    all_given :
        (IsPart : Expr → Type 0) →
        ((expr : Expr) → IsPart expr → IfOk (means known here expr) (NodeFrom P L)) →
        (exprs : List Expr) → AreGiven IsPart exprs →
        Each (λ one. IfOk one (NodeFrom P L)) (map (means known here) exprs)
    all_given IsPart parts [] given = tt
    all_given IsPart parts (expr ∷ exprs) given =
        (parts expr given.0, all_given IsPart parts exprs given.1)

    layer_from :
        (mode : Mode) (IsPart : Expr → Type 0) →
        ((expr : Expr) → IsPart expr → IfOk (means known here expr) (NodeFrom P L)) →
        (one : Expr-F Expr) → IsGivenBy mode IsPart one →
        IfOk (means known here (roll-Expr one)) (NodeFrom P L)
    layer_from mode IsPart parts (layer.Lit one) given =
        let meant : answer here one ≡ means known here (roll-Expr (layer.Lit one)) =
        search (rules, the_lemmas) in
        subst (λ (meant : Meaning). IfOk meant (NodeFrom P L)) meant
        (literal_from one given)
    layer_from mode IsPart parts (layer.Root name) given =
        let meant :
        rooted (root_of known name) ≡ means known here (roll-Expr (layer.Root name)) =
        search (rules, the_lemmas) in
        subst (λ (meant : Meaning). IfOk meant (NodeFrom P L)) meant
        (root_by name (root_of known name) refl)
    layer_from mode IsPart parts (layer.Index of at) given =
        let meant :
        indexed here (means known here of) (means known here at)
        ≡ means known here (roll-Expr (layer.Index of at)) =
        search (rules, the_lemmas) in
        subst (λ (meant : Meaning). IfOk meant (NodeFrom P L)) meant
        (indexed_from (means known here of) (means known here at) (parts of given.0))
    layer_from mode IsPart parts (layer.Project of names) given =
        let meant :
        (means known here of >>= λ node. answer here (projected names node.value))
        ≡ means known here (roll-Expr (layer.Project of names)) =
        search (rules, the_lemmas) in
        subst (λ (meant : Meaning). IfOk meant (NodeFrom P L)) meant
        (project_from (means known here of) names (parts of given.0))
    layer_from mode IsPart parts (layer.Call function exprs) given =
        let meant :
        called known here function (map (means known here) exprs)
        ≡ means known here (roll-Expr (layer.Call function exprs)) =
        search (rules, the_lemmas) in
        subst (λ (meant : Meaning). IfOk meant (NodeFrom P L)) meant
        (called_from (manner_of function) known function (map (means known here) exprs)
        (all_given IsPart parts exprs given.2))

    pub evaluated :
        (mode : Mode) (depth : ℕ) (expr : Expr) → IsGiven mode depth expr →
        IfOk (means known here expr) (NodeFrom P L)
    evaluated mode zero expr given = absurd given
    evaluated mode (suc depth) expr given =
        subst (λ (one : Expr). IfOk (means known here one) (NodeFrom P L))
        (layer_is expr (out-Expr expr) refl)
        (layer_from mode (IsGiven mode depth) (evaluated mode depth) (out-Expr expr) given)
