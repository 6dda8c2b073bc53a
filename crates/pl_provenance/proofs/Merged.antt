-- All pairs of the tree of a root file and of the template that it extends.
use Rattle.std.proofs.Common.{Bool, true, false, cond, Option, Some, None}
use Rattle.std.proofs.Common.{List, [], ◌∷◌}
use Rattle.std.specs.Prelude.{IfOk, filter, codes}
use Rattle.std.specs.List.{AllByRecursion as Each, filter_map}
use Rattle.pl_base.specs.declared.origin.Origin.{Origin}
use Rattle.pl_base.specs.declared.place.Place.{Place}
use Rattle.pl_base.specs.declared.value.Value.{Value, out-Value}
use Rattle.pl_base.specs.declared.value.Value.TheOpen as layer
use Rattle.pl_base.specs.declared.value.MarkedNode.{MarkedNode}
use Rattle.pl_base.specs.declared.value.MarkedPair.{MarkedPair}
use Rattle.pl_base.specs.Texts.{is}
use Rattle.pl_frame.specs.Doubles.{first_double}
use Rattle.pl_directives.specs.declared.progress.Content.{Content}
use Rattle.pl_directives.specs.declared.progress.Content.TheVariants.{Unknown, Items, Pairs}
use Rattle.pl_calls.specs.Judging.{unless_at}
use Rattle.pl_eval_laws.proofs.Leads.{Opened, Head, head_in}
use Rattle.pl_eval_laws.proofs.Lists.{Has, each_append, each_filter_map}
use Rattle.pl_eval_laws.proofs.Lists.{each_implies}
use Rattle.pl_eval_laws.proofs.Trees.{Asked as Wanted, pair_told}
use Rattle.pl_eval_laws.proofs.Trees.{NodeFrom, PairFrom, OpenedFrom, Any, pair_from, array_node}
use Rattle.pl_eval_laws.proofs.Trees.{object_node, node_parts, pair_parts, value_parts, led_from}
use Rattle.pl_eval_laws.proofs.Trees.{first_from, pair_implies, Begun, Calling}
use Rattle.pl_origins.proofs.Called.{variables_from}
use Rattle.pl_origins.proofs.Contents.{ContentFrom}
use Rattle.pl_origins.proofs.Frames.{Keeps}
use Rattle.pl_origins.proofs.Nodes.{Site}
use Rattle.pl_origins.proofs.Steps.{ok_then, any_then}
use Rattle.pl_expand.specs.Below.pl_extends.specs.declared.extending.Extension.{Extension}
use Rattle.pl_expand.specs.Below.pl_extends.specs.Extending.{item_under}
use Rattle.pl_expand.specs.Merging.{variables_from as variables_there, variables_in}
use Rattle.pl_expand.specs.Merging.{joined_variables, both_variables, with_items, is_replaced}
use Rattle.pl_expand.specs.Below.pl_extends.specs.Forms.{form_place}
use Rattle.pl_expand.specs.Merging.{root_side, template_side, joined_pairs}
use Rattle.pl_expand.specs.Merging.{shared_variables, merged}
use Rattle.pl_expand.specs.Tree.{stands, object_pairs, root_object}
use Rattle.pl_provenance.proofs.Extended.{under_from}

module _ (P : Wanted) (keeps : Keeps P.says) where
  each_kept :
      (test : MarkedPair → Bool) (pairs : List MarkedPair) → Each (PairFrom P P) pairs →
      Each (PairFrom P P) (filter test pairs)
  each_kept test [] all = tt
  each_kept test (pair ∷ pairs) all = by (test pair) (each_kept test pairs all.1)
    where
      by : (b : Bool) → Each (PairFrom P P) (filter test pairs) →
          Each (PairFrom P P) (cond b (pair ∷ filter test pairs) (filter test pairs))
      by true later = (all.0, later)
      by false later = later

  -- ---- variables of both files

  there_from :
      (opened : Opened) (place : Place) → OpenedFrom P P opened →
      IfOk (variables_there opened place) (Each (NodeFrom P P))
  there_from (layer.Array items) place all = all
  there_from (layer.Object pairs) place all = variables_from P keeps pairs all
  there_from (layer.Str []) place all = tt
  there_from (layer.Str (byte ∷ bytes)) place all = tt
  there_from layer.Null place all = tt
  there_from (layer.Bool truth) place all = tt
  there_from (layer.Number number) place all = tt
  there_from (layer.Version segments) place all = tt

  in_from : (node : MarkedNode) → NodeFrom P P node → IfOk (variables_in node) (Each (NodeFrom P P))
  in_from node all =
      there_from (out-Value node.value) node.origin.source
      (value_parts P P node.value (node_parts P P node all).1)

  abbrev SharedFrom : Option (List MarkedNode) → Type 0
  SharedFrom = Has (Each (NodeFrom P P))

  both_from :
      (first second : Option MarkedNode) → Has (NodeFrom P P) first → Has (NodeFrom P P) second →
      IfOk (both_variables first second) SharedFrom
  both_from None second from_first from_second = tt
  both_from (Some first) None from_first from_second = tt
  both_from (Some first) (Some second) from_first from_second =
      ok_then (Each (NodeFrom P P)) SharedFrom (joined_variables first second) _
      (ok_then (Each (NodeFrom P P)) (Each (NodeFrom P P)) (variables_in first) _
      (in_from first from_first)
      (λ items are. ok_then (Each (NodeFrom P P)) (Each (NodeFrom P P)) (variables_in second) _
      (in_from second from_second) (λ more also. each_append (NodeFrom P P) items more are also)))
      (λ items are. are)

  -- ---- the pairs

  items_from : (joined : Option (List MarkedNode)) (pair : MarkedPair) → SharedFrom joined →
      PairFrom P P pair → PairFrom P P (with_items joined pair)
  items_from None pair shared own = own
  items_from (Some items) pair shared own =
      let parts = pair_parts P P pair own in
      pair_from P P pair.key pair.key_origin _ parts.0 (pair_told P P pair own)
      (array_node P P pair.item.origin (node_parts P P pair.item parts.1).0 items shared)

  side_from :
      (joined : Option (List MarkedNode)) (more : List MarkedPair) → SharedFrom joined →
      (pair : MarkedPair) → PairFrom P P pair → Has (PairFrom P P) (root_side joined more pair)
  side_from joined more shared pair own = by (is_replaced more pair.key)
    where
      named : (b : Bool) →
          Has (PairFrom P P) (cond b (Some (with_items joined pair)) (Some pair))
      named true = items_from joined pair shared own
      named false = own

      by : (b : Bool) → Has (PairFrom P P) (cond b None
          (cond (is pair.key (codes "variables")) (Some (with_items joined pair)) (Some pair)))
      by true = tt
      by false = named (is pair.key (codes "variables"))

  joined_from :
      (pairs more : List MarkedPair) (joined : Option (List MarkedNode)) → SharedFrom joined →
      Each (PairFrom P P) pairs → Each (PairFrom P P) more →
      Each (PairFrom P P) (joined_pairs pairs more joined)
  joined_from pairs more joined shared all also =
      each_append (PairFrom P P) (filter_map (root_side joined more) pairs)
      (filter (template_side pairs) more)
      (each_filter_map (PairFrom P P) (PairFrom P P) (root_side joined more)
      (side_from joined more shared) pairs all)
      (each_kept (template_side pairs) more also)

  merged_from :
      (extension : Option Extension) (pairs : List MarkedPair) →
      Has (λ (one : Extension). Each (PairFrom P P) one.pairs) extension →
      Each (PairFrom P P) pairs → IfOk (merged extension pairs) (Each (PairFrom P P))
  merged_from None pairs more all = all
  merged_from (Some extension) pairs more all =
      any_then (Each (PairFrom P P)) (unless_at {X = Unit {0}} _ (form_place pairs) tt) _
      (λ none. ok_then SharedFrom (Each (PairFrom P P)) (shared_variables pairs extension.pairs) _
      (both_from (item_under (codes "variables") pairs)
      (item_under (codes "variables") extension.pairs)
      (under_from P (codes "variables") pairs all)
      (under_from P (codes "variables") extension.pairs more))
      (λ joined shared. joined_from pairs extension.pairs joined shared all more))

  -- of the calls that mappings of the tree would be nothing is asked any more
  weaker : (pairs : List MarkedPair) → Each (PairFrom P P) pairs → Each (PairFrom P Any) pairs
  weaker =
      each_implies (PairFrom P P) (PairFrom P Any)
      (pair_implies P P P Any (λ origin is. is) (λ origin is. tt) (λ item path one calls files. tt)
      (λ origin said told. told))

  no_calls : (origin : Origin) (head : Option Head) → Has (Begun Any origin) head
  no_calls origin None = tt
  no_calls origin (Some head) = λ is. by head.atom
    where
      by : (atom : Option Value) → Has (Calling Any origin head.path) atom
      by None = tt
      by (Some one) = λ files. tt

  pub object_from_root :
      (R : Site) (extension : Option Extension) (origin : Origin) (content : Content) →
      P.own origin → Has (λ (one : Extension). Each (PairFrom P P) one.pairs) extension →
      ContentFrom P R content → IfOk (root_object extension origin content) (NodeFrom P Any)
  object_from_root R extension origin (Pairs pairs) own more all =
      ok_then (Each (PairFrom P P)) (NodeFrom P Any) (object_pairs extension pairs) _
      (any_then (Each (PairFrom P P)) (unless_at {X = Unit {0}} _ (first_double pairs) tt) _
      (λ none. merged_from extension (filter stands pairs) more (each_kept stands pairs all.0)))
      (λ pairs are. object_node P Any origin own pairs (weaker pairs are)
      (led_from P Any origin (λ path is. tt) (head_in pairs) (first_from P P pairs are)
      (no_calls origin (head_in pairs))))
  object_from_root R extension origin Unknown own more all = tt
  object_from_root R extension origin (Items items) own more all = tt
