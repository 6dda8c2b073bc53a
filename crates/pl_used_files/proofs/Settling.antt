-- Items that are put into a list, and values that expressions gave, where calls are followed over
-- two sets of files.
use Rattle.std.proofs.Common.{◌≡◌, ℕ, Option, Some, None, List, [], ◌∷◌, map, subst}
use Rattle.std.proofs.Common.{rules}
use Rattle.std.specs.List.{AllByRecursion as Each}
use Rattle.pl_base.specs.declared.origin.Origin.{Origin}
use Rattle.pl_base.specs.declared.place.FileKey.{FileKey}
use Rattle.pl_base.specs.declared.value.Value.{Value, out-Value, roll-Value, the_lemmas}
use Rattle.pl_base.specs.declared.value.Value.TheVariants as value
use Rattle.pl_base.specs.declared.value.Value.TheOpen.{Null, Bool as Truth, Number}
use Rattle.pl_base.specs.declared.value.Value.TheOpen.{Version, Str, Array, Object}
use Rattle.pl_base.specs.declared.value.MarkedNode.{MarkedNode}
use Rattle.pl_base.specs.declared.value.MarkedPair.{MarkedPair}
use Rattle.pl_frame.specs.declared.frame.Frame.{Frame}
use Rattle.pl_directives.specs.declared.progress.Content.{Content}
use Rattle.pl_directives.specs.declared.progress.Content.TheVariants.{Unknown, Items, Pairs}
use Rattle.pl_directives.specs.declared.progress.Progress.{Progress}
use Rattle.pl_directives.specs.declared.region.Form.{Form}
use Rattle.pl_directives.specs.declared.region.Region.{Region}
use Rattle.pl_directives.specs.Contents.{add_items, with_count, object_of}
use Rattle.pl_directives.specs.Regions.{call_form, inside, under}
use Rattle.pl_recursion.specs.declared.followed.Followed.{Followed}
use Rattle.pl_recursion.specs.declared.followed.SettledPairs.{SettledPairs}
use Rattle.pl_recursion.specs.Following.{Follow, scope_of}
use Rattle.pl_recursion.specs.Putting.{add_by, add_item, splice, spread_of, spread}
use Rattle.pl_recursion.specs.Settling.{Settling, ValueSeen, NodeSeen, PairSeen, items_and}
use Rattle.pl_recursion.specs.Settling.{items_with, item_settled, item_behind, items_behind}
use Rattle.pl_recursion.specs.Settling.{pairs_and, pair_behind, pairs_behind, array_settled}
use Rattle.pl_recursion.specs.Settling.{object_settled, node_settled, value_seen, node_seen}
use Rattle.pl_recursion.specs.Settling.{atom_settled, pair_seen, node_settling}
use Rattle.pl_eval_laws.proofs.Leads.{Opened}
use Rattle.pl_origins.proofs.Induction.{Parts, node_induction}
use Rattle.pl_used_files.proofs.Agreeing.{Agree, done, both_alone, same_then, both_then}

abbrev pub FollowAgree : (List FileKey → Type 0) → Follow → Follow → Type 0
FollowAgree U one other =
    (frame : Frame) (form : Form) (item : MarkedNode) (count : ℕ) (used : List FileKey) →
    Agree U used (one frame form item count used) (other frame form item count used)

module _ (U : List FileKey → Type 0) (one other : Follow) (follows : FollowAgree U one other)
    (frame : Frame) (region : Region) where
  -- ---- items that are put into a list

  add_by_agree :
      (form : Option Form) (item : MarkedNode) (progress : Progress) (used : List FileKey) →
      Agree U used (add_by form (scope_of one frame region) item progress used)
      (add_by form (scope_of other frame region) item progress used)
  add_by_agree None item progress used =
      both_alone U used (add_items item.origin.source (item ∷ []) progress)
  add_by_agree (Some form) item progress used =
      both_then U used (one frame form item progress.count used)
      (other frame form item progress.count used) _ _
      (follows frame form item progress.count used)
      (λ more later. both_alone U later
      (add_items item.origin.source more.items (with_count more.count progress)))

  pub add_item_agree :
      (item : MarkedNode) (progress : Progress) (used : List FileKey) →
      Agree U used (add_item (scope_of one frame region) item progress used)
      (add_item (scope_of other frame region) item progress used)
  add_item_agree item progress used = add_by_agree (call_form region item) item progress used

  pub splice_agree :
      (origin : Origin) (content : Content) (progress : Progress) (used : List FileKey) →
      Agree U used (splice (scope_of one frame region) origin content progress used)
      (splice (scope_of other frame region) origin content progress used)
  splice_agree origin Unknown progress used = done U used progress
  splice_agree origin (Items items) progress used =
      both_alone U used (add_items origin.source items progress)
  splice_agree origin (Pairs []) progress used = done U used progress
  splice_agree origin (Pairs (pair ∷ pairs)) progress used =
      same_then U used (object_of origin (pair ∷ pairs)) _ _
      (λ item. add_item_agree item progress used)

  spread_by :
      (opened : Opened) (node : MarkedNode) (progress : Progress) (used : List FileKey) →
      Agree U used (spread_of opened (scope_of one frame region) node progress used)
      (spread_of opened (scope_of other frame region) node progress used)
  spread_by (Array items) node progress used =
      both_alone U used (add_items node.origin.source items progress)
  spread_by Null node progress used = add_item_agree node progress used
  spread_by (Truth truth) node progress used = add_item_agree node progress used
  spread_by (Number number) node progress used = add_item_agree node progress used
  spread_by (Version segments) node progress used = add_item_agree node progress used
  spread_by (Str text) node progress used = add_item_agree node progress used
  spread_by (Object pairs) node progress used = add_item_agree node progress used

  pub spread_agree :
      (node : MarkedNode) (progress : Progress) (used : List FileKey) →
      Agree U used (spread (scope_of one frame region) node progress used)
      (spread (scope_of other frame region) node progress used)
  spread_agree node progress used = spread_by (out-Value node.value) node progress used

-- ---- a value that an expression gave, once it stands in its place

module _ (U : List FileKey → Type 0) where
  abbrev Settles : {X : Type 0} → Settling X → Type 0
  Settles settling =
      (one other : Follow) (frame : Frame) (region : Region) (count : ℕ) (used : List FileKey) →
      FollowAgree U one other →
      Agree U used (settling (scope_of one frame region) count used)
      (settling (scope_of other frame region) count used)

  abbrev NodeSettles : NodeSeen → Type 0
  NodeSettles seen = Settles seen.settled

  abbrev PairSettles : PairSeen → Type 0
  PairSettles seen = Settles seen.settled

  module _ (one other : Follow) (follows : FollowAgree U one other) (frame : Frame)
      (region : Region) where
    item_agree :
        (form : Option Form) (seen : NodeSeen) (before : Followed) (used : List FileKey) →
        NodeSettles seen →
        Agree U used (item_settled form seen (scope_of one frame region) before used)
        (item_settled form seen (scope_of other frame region) before used)
    item_agree None seen before used holds =
        both_then U used (seen.settled (scope_of one frame (inside region)) before.count used)
        (seen.settled (scope_of other frame (inside region)) before.count used) _ _
        (holds one other frame (inside region) before.count used follows)
        (λ x later. done U later (items_and before x))
    item_agree (Some form) seen before used holds =
        both_then U used (one frame form seen.itself before.count used)
        (other frame form seen.itself before.count used) _ _
        (follows frame form seen.itself before.count used)
        (λ more later. done U later (items_with before more))

    items_agree :
        (seen : List NodeSeen) (before : Followed) (used : List FileKey) → Each NodeSettles seen →
        Agree U used (items_behind seen (scope_of one frame region) before used)
        (items_behind seen (scope_of other frame region) before used)
    items_agree [] before used holds = done U used before
    items_agree (first ∷ seen) before used holds =
        both_then U used (item_behind first (scope_of one frame region) before used)
        (item_behind first (scope_of other frame region) before used)
        (items_behind seen (scope_of one frame region))
        (items_behind seen (scope_of other frame region))
        (item_agree (call_form region first.itself) first before used holds.0)
        (λ after later. items_agree seen after later holds.1)

    pair_agree :
        (seen : PairSeen) (before : SettledPairs) (used : List FileKey) → PairSettles seen →
        Agree U used (pair_behind seen (scope_of one frame region) before used)
        (pair_behind seen (scope_of other frame region) before used)
    pair_agree seen before used holds =
        both_then U used
        (seen.settled (scope_of one frame (under seen.itself.key region)) before.count used)
        (seen.settled (scope_of other frame (under seen.itself.key region)) before.count used) _ _
        (holds one other frame (under seen.itself.key region) before.count used follows)
        (λ x later. done U later (pairs_and before seen.itself x))

    pairs_agree :
        (seen : List PairSeen) (before : SettledPairs) (used : List FileKey) →
        Each PairSettles seen →
        Agree U used (pairs_behind seen (scope_of one frame region) before used)
        (pairs_behind seen (scope_of other frame region) before used)
    pairs_agree [] before used holds = done U used before
    pairs_agree (first ∷ seen) before used holds =
        both_then U used (pair_behind first (scope_of one frame region) before used)
        (pair_behind first (scope_of other frame region) before used)
        (pairs_behind seen (scope_of one frame region))
        (pairs_behind seen (scope_of other frame region))
        (pair_agree first before used holds.0)
        (λ after later. pairs_agree seen after later holds.1)

  -- ---- by induction over the value

  abbrev ValueClaim : Value → Type 0
  ValueClaim x = Settles (value_seen x).settled

  abbrev NodeClaim : MarkedNode → Type 0
  NodeClaim x = NodeSettles (node_seen x)

  abbrev PairClaim : MarkedPair → Type 0
  PairClaim x = PairSettles (pair_seen x)

  abbrev Seen : ValueSeen → Type 0
  Seen seen = Settles seen.settled

  nodes_claim : (items : List MarkedNode) → Each NodeClaim items →
      Each NodeSettles (map node_seen items)
  nodes_claim [] claims = tt
  nodes_claim (item ∷ items) claims = (claims.0, nodes_claim items claims.1)

  pairs_claim : (pairs : List MarkedPair) → Each PairClaim pairs →
      Each PairSettles (map pair_seen pairs)
  pairs_claim [] claims = tt
  pairs_claim (pair ∷ pairs) claims = (claims.0, pairs_claim pairs claims.1)

  atom_claim : (atom : Value) → Settles (atom_settled atom)
  atom_claim atom one other frame region count used follows =
      done U used (record { value = atom; count = count })

  array_claim : (seen : List NodeSeen) → Each NodeSettles seen → Settles (array_settled seen)
  array_claim seen holds one other frame region count used follows =
      both_then U used
      (items_behind seen (scope_of one frame region) (record { items = []; count = count }) used)
      (items_behind seen (scope_of other frame region) (record { items = []; count = count }) used)
      _ _
      (items_agree one other follows frame region seen (record { items = []; count = count }) used
      holds)
      (λ all later. done U later (record { value = value.Array all.items; count = all.count }))

  object_claim : (seen : List PairSeen) → Each PairSettles seen → Settles (object_settled seen)
  object_claim seen holds one other frame region count used follows =
      both_then U used
      (pairs_behind seen (scope_of one frame region) (record { pairs = []; count = count }) used)
      (pairs_behind seen (scope_of other frame region) (record { pairs = []; count = count }) used)
      _ _
      (pairs_agree one other follows frame region seen (record { pairs = []; count = count }) used
      holds)
      (λ all later. done U later (record { value = value.Object all.pairs; count = all.count }))

  of_layer : (layer : Opened) → Parts NodeClaim PairClaim layer → ValueClaim (roll-Value layer)
  of_layer Null parts =
      let is : atom_settled value.Null ≡ (value_seen (roll-Value Null)).settled =
      search (rules, the_lemmas) in
      subst Settles is (atom_claim value.Null)
  of_layer (Truth truth) parts =
      let is : atom_settled (value.Bool truth) ≡ (value_seen (roll-Value (Truth truth))).settled =
      search (rules, the_lemmas) in
      subst Settles is (atom_claim (value.Bool truth))
  of_layer (Number number) parts =
      let is :
      atom_settled (value.Number number) ≡ (value_seen (roll-Value (Number number))).settled =
      search (rules, the_lemmas) in
      subst Settles is (atom_claim (value.Number number))
  of_layer (Version segments) parts =
      let is :
      atom_settled (value.Version segments) ≡ (value_seen (roll-Value (Version segments))).settled
      = search (rules, the_lemmas) in
      subst Settles is (atom_claim (value.Version segments))
  of_layer (Str text) parts =
      let is : atom_settled (value.Str text) ≡ (value_seen (roll-Value (Str text))).settled =
      search (rules, the_lemmas) in
      subst Settles is (atom_claim (value.Str text))
  of_layer (Array items) parts =
      let is : array_settled (map node_seen items) ≡ (value_seen (roll-Value (Array items))).settled
      = search (rules, the_lemmas) in
      subst Settles is (array_claim (map node_seen items) (nodes_claim items parts))
  of_layer (Object pairs) parts =
      let is :
      object_settled (map pair_seen pairs) ≡ (value_seen (roll-Value (Object pairs))).settled =
      search (rules, the_lemmas) in
      subst Settles is (object_claim (map pair_seen pairs) (pairs_claim pairs parts))

  of_node :
      (origin : Origin) (x : Value) → ValueClaim x →
      NodeClaim (record { origin = origin; value = x })
  of_node origin x claim =
      let node : MarkedNode = record { origin = origin; value = x } in
      let is : node_settled origin (value_seen x) ≡ (node_seen node).settled =
      search (rules, the_lemmas) in
      subst Settles is
      (λ one other frame region count used follows.
      both_then U used ((value_seen x).settled (scope_of one frame region) count used)
      ((value_seen x).settled (scope_of other frame region) count used) _ _
      (claim one other frame region count used follows)
      (λ settled later. done U later (record {
        node = record { origin = origin; value = settled.value };
        count = settled.count;
      })))

  of_pair :
      (key : List ℕ) (key_origin : Origin) (item : MarkedNode) → NodeClaim item →
      PairClaim (record { key = key; key_origin = key_origin; item = item })
  of_pair key key_origin item claim =
      let pair : MarkedPair = record { key = key; key_origin = key_origin; item = item } in
      let is : (node_seen item).settled ≡ (pair_seen pair).settled = search (rules, the_lemmas) in
      subst Settles is claim

  pub settling_agree : (node : MarkedNode) → Settles (node_settling node)
  settling_agree = node_induction ValueClaim NodeClaim PairClaim of_layer of_node of_pair
