-- The calls that the mappings of a tree would be, where a predicate of its origins tells of them.
use Rattle.std.proofs.Common.{ℕ, Option, Some, None, List, [], ◌∷◌, subst}
use Rattle.pl_base.specs.declared.place.Place.{Place}
use Rattle.std.specs.List.{AllByRecursion as Each}
use Rattle.pl_base.specs.declared.origin.Origin.{Origin}
use Rattle.pl_base.specs.declared.value.Value.{Value, roll-Value}
use Rattle.pl_base.specs.declared.value.Value.TheOpen.{Array, Object}
use Rattle.pl_base.specs.declared.value.MarkedNode.{MarkedNode}
use Rattle.pl_base.specs.declared.value.MarkedPair.{MarkedPair}
use Rattle.pl_eval_laws.specs.Trees.{origins_of}
use Rattle.pl_eval_laws.proofs.Leads.{Opened, lead, head_of, leads_of, opened_is, Head}
use Rattle.pl_eval_laws.proofs.Lists.{Has}
use Rattle.pl_eval_laws.specs.Marks.{marks_of}
use Rattle.pl_eval_laws.proofs.Trees.{Asked, Marked, node_told, pair_told}
use Rattle.pl_eval_laws.proofs.Trees.{NodeFrom, ValueFrom, PairFrom, OpenedFrom, Any, node_from}
use Rattle.pl_eval_laws.proofs.Trees.{pair_from, layer_from, node_parts, pair_parts, value_parts}
use Rattle.pl_eval_laws.proofs.Trees.{head_from, led_from, Begun, Calling, nothing_led}
use Rattle.pl_origins.proofs.Induction.{Parts, node_induction}

module _ (P M : Asked)
    (leads : (item path : Origin) → P.own item → P.own path → M.own (lead item path))
    (calls : (at from : Place) (one : Value) → M.calls at from one) where
  begun_there : (item path : Origin) (atom : Option Value) → Has (Calling M item path) atom
  begun_there item path None = tt
  begun_there item path (Some one) = λ files. calls item.source path.source one

  has_begun : (origin : Origin) (head : Option Head) → Has (Begun M origin) head
  has_begun origin None = tt
  has_begun origin (Some head) = λ is. begun_there origin head.path head.atom

  abbrev ValueClaim : Value → Type 0
  ValueClaim one = ValueFrom P Any one → ValueFrom P M one

  abbrev NodeClaim : MarkedNode → Type 0
  NodeClaim node = NodeFrom P Any node → NodeFrom P M node

  abbrev PairClaim : MarkedPair → Type 0
  PairClaim pair = PairFrom P Any pair → PairFrom P M pair

  each_goes :
      {X : Type 0} (A B : X → Type 0) (xs : List X) → Each (λ x. A x → B x) xs → Each A xs →
      Each B xs
  each_goes A B [] goes all = tt
  each_goes A B (x ∷ xs) goes all = (goes.0 all.0, each_goes A B xs goes.1 all.1)

  by_layer :
      (layer : Opened) → Parts NodeClaim PairClaim layer → OpenedFrom P Any layer →
      OpenedFrom P M layer
  by_layer (Array items) claims all = each_goes (NodeFrom P Any) (NodeFrom P M) items claims all
  by_layer (Object pairs) claims all = each_goes (PairFrom P Any) (PairFrom P M) pairs claims all
  by_layer atom claims all = tt

  of_layer : (layer : Opened) → Parts NodeClaim PairClaim layer → ValueClaim (roll-Value layer)
  of_layer layer claims all =
      layer_from P M layer
      (by_layer layer claims
      (subst (OpenedFrom P Any) (opened_is layer) (value_parts P Any (roll-Value layer) all)))

  of_node :
      (origin : Origin) (one : Value) → ValueClaim one →
      NodeClaim (record { origin = origin; value = one })
  of_node origin one claim all =
      let node : MarkedNode = record { origin = origin; value = one } in
      let parts = node_parts P Any node all in
      let below = claim parts.1 in
      node_from P M origin one parts.0 (node_told P Any node all) below
      (led_from P M origin (λ path is. leads origin path parts.0 is) (head_of one)
      (head_from P M one below) (has_begun origin (head_of one)))

  of_pair :
      (key : List ℕ) (key_origin : Origin) (item : MarkedNode) → NodeClaim item →
      PairClaim (record { key = key; key_origin = key_origin; item = item })
  of_pair key key_origin item claim all =
      let pair : MarkedPair = record { key = key; key_origin = key_origin; item = item } in
      let parts = pair_parts P Any pair all in
      pair_from P M key key_origin item parts.0 (pair_told P Any pair all) (claim parts.1)

  pub leads_follow : (node : MarkedNode) → Each P.own (origins_of node) →
      Each (Marked P) (marks_of node) → NodeFrom P M node
  unfolding NodeFrom
  leads_follow node all marks =
      node_induction ValueClaim NodeClaim PairClaim of_layer of_node of_pair node
      (all, (nothing_led (leads_of node), marks))
