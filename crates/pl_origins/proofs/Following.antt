-- Items that are put into a list, and values that expressions gave, where calls are followed.
use Rattle.std.proofs.Common.{◌≡◌, ℕ, Bool, true, false, cond, Option, Some, None, Ok, Err, List}
use Rattle.std.proofs.Common.{[], ◌∷◌, ◌++◌, map, refl, ap, sym, subst, ◌∙◌, rules}
use Rattle.std.specs.Prelude.{codes}
use Rattle.pl_base.specs.Texts.{is}
use Rattle.std.specs.List.{AllByRecursion as Each}
use Rattle.std.specs.Option.{option_or}
use Rattle.pl_base.specs.declared.origin.Origin.{Origin}
use Rattle.pl_base.specs.declared.place.FileKey.{FileKey}
use Rattle.pl_base.specs.declared.value.Value.{Value, out-Value, roll-Value, the_lemmas}
use Rattle.pl_base.specs.declared.value.Value.TheVariants as value
use Rattle.pl_base.specs.declared.value.Value.TheOpen.{Null, Bool as Truth, Number}
use Rattle.pl_base.specs.declared.value.Value.TheOpen.{Version, Str, Array, Object}
use Rattle.pl_base.specs.declared.value.MarkedNode.{MarkedNode}
use Rattle.pl_base.specs.declared.value.MarkedPair.{MarkedPair}
use Rattle.pl_frame.specs.declared.frame.Frame.{Frame}
use Rattle.pl_directives.specs.declared.progress.Content.{Content}
use Rattle.pl_directives.specs.declared.progress.Content.TheVariants.{Unknown, Items, Pairs}
use Rattle.pl_directives.specs.declared.progress.Progress.{Progress}
use Rattle.pl_directives.specs.declared.region.Form.{Form}
use Rattle.pl_directives.specs.declared.region.Region.{Region}
use Rattle.pl_directives.specs.Contents.{with_count, object_of}
use Rattle.pl_directives.specs.Regions.{call_form, is_template, form_at, inside, under}
use Rattle.pl_recursion.specs.declared.followed.Followed.{Followed}
use Rattle.pl_recursion.specs.declared.followed.SettledPairs.{SettledPairs}
use Rattle.pl_recursion.specs.declared.followed.SettledValue.{SettledValue}
use Rattle.pl_directives.specs.declared.progress.Counted.{Counted}
use Rattle.pl_recursion.specs.Following.{Follow, scope_of}
use Rattle.pl_recursion.specs.Putting.{add_by, add_item, splice, spread_of, spread}
use Rattle.pl_recursion.specs.Settling.{Settling, ValueSeen, NodeSeen, PairSeen, items_and}
use Rattle.pl_recursion.specs.Settling.{items_with, item_settled, item_behind, items_behind}
use Rattle.pl_recursion.specs.Settling.{pairs_and, pair_behind, pairs_behind, array_settled}
use Rattle.pl_recursion.specs.Settling.{object_settled, node_settled, value_seen, node_seen}
use Rattle.pl_recursion.specs.Settling.{atom_settled, pair_seen, node_settling}
use Rattle.pl_recursion.proofs.Itself.{node_itself}
use Rattle.pl_eval_laws.proofs.Leads.{Opened, Head, head_at, head_in, head_by, head_of}
use Rattle.pl_eval_laws.proofs.Leads.{object_head, array_head}
use Rattle.pl_eval_laws.proofs.Leads.{opened_array, opened_object, atom_of}
use Rattle.pl_eval_laws.specs.Marks.{key as key_said}
use Rattle.pl_eval_laws.proofs.Marks.{array_atom, object_atom}
use Rattle.pl_eval_laws.proofs.Lists.{Has, each_append}
use Rattle.pl_eval_laws.proofs.Trees.{Asked, Told, Atom, node_told, pair_told}
use Rattle.pl_eval_laws.proofs.Trees.{NodeFrom, ValueFrom, PairFrom, OpenedFrom, Led, node_from}
use Rattle.pl_eval_laws.proofs.Trees.{pair_from, array_from, object_from, node_parts, pair_parts}
use Rattle.pl_eval_laws.proofs.Trees.{value_parts, node_led, null_from, truth_from, number_from}
use Rattle.pl_eval_laws.proofs.Trees.{version_from, text_from}
use Rattle.pl_origins.proofs.Contents.{ContentFrom, ProgressFrom, Headed, add_items_from}
use Rattle.pl_origins.proofs.Contents.{object_of_from}
use Rattle.std.specs.Cmp.Lexicographic.{same_text}
use Rattle.pl_origins.proofs.Frames.{Seen}
use Rattle.pl_origins.proofs.Induction.{Parts, node_induction}
use Rattle.pl_origins.proofs.Nodes.{Site}
use Rattle.pl_origins.proofs.Scalars.{HeldFrom}
use Rattle.pl_origins.proofs.Steps.{Used, Gives, given, done_gives, alone_gives, used_then}
use Rattle.pl_origins.proofs.Steps.{first_then}

abbrev pub FollowedFrom : Asked → Followed → Type 0
FollowedFrom P more = Each (NodeFrom P P) more.items

-- an item's first key is `template`
abbrev pub IsTemplate : MarkedNode → Type 0
IsTemplate item = Has (λ (head : Head). head.key ≡ codes "template") (head_of item.value)

-- a call gives what the predicate holds of, where it holds of the call's item
abbrev pub FollowFrom : Asked → (List FileKey → Type 0) → Follow → Type 0
FollowFrom P U follow =
    (frame : Frame) (form : Form) (item : MarkedNode) (count : ℕ) (used : List FileKey) →
    Gives U (NodeFrom P P item × IsTemplate item) used (follow frame form item count used)
    (FollowedFrom P)

-- what is followed is such an item
call_is : (region : Region) (item : MarkedNode) (form : Form) →
    call_form region item ≡ Some form → IsTemplate item
call_is region item form called = by (out-Value item.value) called
  where
    named : (key : List ℕ) (found : Option Form) (b : Bool) →
        is key (codes "template") ≡ b → cond b found None ≡ Some form → key ≡ codes "template"
    named key found true same called = same_text key (codes "template") (sym same)
    named key found false same called = absurd (cc)

    by : (opened : Opened) →
        cond (is_template opened) (form_at region) None ≡ Some form →
        Has (λ (head : Head). head.key ≡ codes "template") (head_by opened)
    by (Object []) called = tt
    by (Object (pair ∷ pairs)) called =
        named pair.key (form_at region) (is pair.key (codes "template")) refl called
    by (Array items) called = tt
    by Null called = tt
    by (Truth truth) called = tt
    by (Number number) called = tt
    by (Version segments) called = tt
    by (Str text) called = tt

module _ (P : Asked) (R : Site) (U : List FileKey → Type 0) (follow : Follow)
    (follows : FollowFrom P U follow) (frame : Frame) (region : Region) where
  -- ---- items that are put into a list

  add_by_gives :
      (form : Option Form) (H : Type 0) (item : MarkedNode) (progress : Progress)
      (used : List FileKey) → call_form region item ≡ form → (H → NodeFrom P P item) →
      (H → ProgressFrom P R progress) →
      Gives U H used (add_by form (scope_of follow frame region) item progress used)
      (ProgressFrom P R)
  add_by_gives None H item progress used called own all =
      alone_gives U (ProgressFrom P R) H used _
      (λ h. add_items_from P R item.origin.source (item ∷ []) progress (own h, tt) (all h))
  add_by_gives (Some form) H item progress used called own all =
      used_then U (FollowedFrom P) (ProgressFrom P R) H used
      (follow frame form item progress.count used) _
      (given U (FollowedFrom P) (NodeFrom P P item × IsTemplate item) H used
      (follow frame form item progress.count used) (λ h. (own h, call_is region item form called))
      (follows frame form item progress.count used))
      (λ more later. alone_gives U (ProgressFrom P R) (H × FollowedFrom P more) later _
      (λ h. add_items_from P R item.origin.source more.items (with_count more.count progress) h.1
      (all h.0)))

  pub add_item_gives :
      (H : Type 0) (item : MarkedNode) (progress : Progress) (used : List FileKey) →
      (H → NodeFrom P P item) → (H → ProgressFrom P R progress) →
      Gives U H used (add_item (scope_of follow frame region) item progress used) (ProgressFrom P R)
  add_item_gives H item progress used own all =
      add_by_gives (call_form region item) H item progress used refl own all

  pub splice_gives :
      (H : Type 0) (origin : Origin) (content : Content) (progress : Progress)
      (used : List FileKey) → R.at origin.source → (H → (Seen P R).own origin) →
      (H → ContentFrom P R content × Headed P origin content) →
      (H → ProgressFrom P R progress) →
      Gives U H used (splice (scope_of follow frame region) origin content progress used)
      (ProgressFrom P R)
  splice_gives H origin Unknown progress used here own below all =
      done_gives U (ProgressFrom P R) H used progress all
  splice_gives H origin (Items items) progress used here own below all =
      alone_gives U (ProgressFrom P R) H used _
      (λ h. add_items_from P R origin.source items progress (below h).0 (all h))
  splice_gives H origin (Pairs []) progress used here own below all =
      done_gives U (ProgressFrom P R) H used progress all
  splice_gives H origin (Pairs (pair ∷ pairs)) progress used here own below all =
      first_then U (HeldFrom P R) (ProgressFrom P R) H used (object_of origin (pair ∷ pairs)) _
      (λ h. object_of_from P R origin (own h) here (pair ∷ pairs) (below h).0 (below h).1)
      (λ item. add_item_gives (H × HeldFrom P R item) item progress used (λ h. h.1.0)
      (λ h. all h.0))

  spread_by :
      (opened : Opened) (H : Type 0) (node : MarkedNode) (progress : Progress)
      (used : List FileKey) → (H → OpenedFrom P P opened) → (H → NodeFrom P P node) →
      (H → ProgressFrom P R progress) →
      Gives U H used (spread_of opened (scope_of follow frame region) node progress used)
      (ProgressFrom P R)
  spread_by (Array items) H node progress used below own all =
      alone_gives U (ProgressFrom P R) H used _
      (λ h. add_items_from P R node.origin.source items progress (below h) (all h))
  spread_by Null H node progress used below own all =
      add_item_gives H node progress used own all
  spread_by (Truth truth) H node progress used below own all =
      add_item_gives H node progress used own all
  spread_by (Number number) H node progress used below own all =
      add_item_gives H node progress used own all
  spread_by (Version segments) H node progress used below own all =
      add_item_gives H node progress used own all
  spread_by (Str text) H node progress used below own all =
      add_item_gives H node progress used own all
  spread_by (Object pairs) H node progress used below own all =
      add_item_gives H node progress used own all

  pub spread_gives :
      (H : Type 0) (node : MarkedNode) (progress : Progress) (used : List FileKey) →
      (H → NodeFrom P P node) → (H → ProgressFrom P R progress) →
      Gives U H used (spread (scope_of follow frame region) node progress used) (ProgressFrom P R)
  spread_gives H node progress used own all =
      spread_by (out-Value node.value) H node progress used
      (λ h. value_parts P P node.value (node_parts P P node (own h)).1) own all

-- ---- a value that an expression gave, once it stands in its place

-- it comes from where it came from, and so does its first value; an atom stays as it is
abbrev pub KeptFrom : Asked → MarkedNode → Counted → Type 0
KeptFrom P node one =
    NodeFrom P P one.node
    × ((one.node.origin ≡ node.origin)
    × ((head_of one.node.value ≡ head_of node.value)
    × (atom_of one.node.value ≡ atom_of node.value)))

module _ (P : Asked) (U : List FileKey → Type 0) where
  abbrev Settles : {X : Type 0} → Type 0 → Settling X → (X → Type 0) → Type 0
  Settles H settling Q =
      (follow : Follow) (frame : Frame) (region : Region) (count : ℕ) (used : List FileKey) →
      FollowFrom P U follow → Gives U H used (settling (scope_of follow frame region) count used) Q

  abbrev SettledFrom : Value → SettledValue → Type 0
  SettledFrom before one =
      ValueFrom P P one.value
      × ((head_of one.value ≡ head_of before) × (atom_of one.value ≡ atom_of before))

  abbrev PairsSettled : SettledPairs → Option Head → SettledPairs → Type 0
  PairsSettled before head all =
      Each (PairFrom P P) all.pairs
      × (head_in all.pairs ≡ option_or (head_in before.pairs) head)

  abbrev ValueClaim : Value → Type 0
  ValueClaim one = Settles (ValueFrom P P one) (value_seen one).settled (SettledFrom one)

  abbrev NodeClaim : MarkedNode → Type 0
  NodeClaim one = Settles (NodeFrom P P one) (node_seen one).settled (KeptFrom P one)

  abbrev PairClaim : MarkedPair → Type 0
  PairClaim pair = Settles (NodeFrom P P pair.item) (pair_seen pair).settled (KeptFrom P pair.item)

  key_itself : (pair : MarkedPair) → (pair_seen pair).itself.key_origin ≡ pair.key_origin
  key_itself pair = by pair.key pair.key_origin pair.item
    where
      by : (key : List ℕ) (key_origin : Origin) (item : MarkedNode) →
          (pair_seen (record { key = key; key_origin = key_origin; item = item })).itself.key_origin
          ≡ key_origin
      by key key_origin item = search (rules, the_lemmas)

  key_text : (pair : MarkedPair) → (pair_seen pair).itself.key ≡ pair.key
  key_text pair = by pair.key pair.key_origin pair.item
    where
      by : (key : List ℕ) (key_origin : Origin) (item : MarkedNode) →
          (pair_seen (record { key = key; key_origin = key_origin; item = item })).itself.key
          ≡ key
      by key key_origin item = search (rules, the_lemmas)

  key_told : (pair : MarkedPair) → PairFrom P P pair →
      Told P (pair_seen pair).itself.key_origin (key_said (pair_seen pair).itself.key)
  key_told pair own =
      subst (λ (origin : Origin). Told P origin (key_said (pair_seen pair).itself.key))
      (sym (key_itself pair))
      (subst (λ (key : List ℕ). Told P pair.key_origin (key_said key)) (sym (key_text pair))
      (pair_told P P pair own))

  nothing_or : (head : Option Head) → head ≡ option_or head None
  nothing_or None = refl
  nothing_or (Some head) = refl

  either_or : (before next : Option Head) (head : Head) →
      option_or (option_or before (Some head)) next ≡ option_or before (Some head)
  either_or None next head = refl
  either_or (Some first) next head = refl

  put_behind : (pairs : List MarkedPair) (pair : MarkedPair) (head : Head) →
      head_at pair ≡ head →
      head_in (pairs ++ pair ∷ []) ≡ option_or (head_in pairs) (Some head)
  put_behind [] pair head is = ap (λ (head : Head). Some head) is
  put_behind (first ∷ pairs) pair head is = refl

  -- a pair with the value that became of its own
  pair_kept : (pair : MarkedPair) (node : MarkedNode) → node.origin ≡ pair.item.origin →
      atom_of node.value ≡ atom_of pair.item.value →
      head_at (record {
        key = (pair_seen pair).itself.key;
        key_origin = (pair_seen pair).itself.key_origin;
        item = node;
      }) ≡ head_at pair
  pair_kept pair node origin atom =
      let key = key_text pair in
      λ i. record { key = key i; path = origin i; atom = atom i }

  module _ (follow : Follow) (follows : FollowFrom P U follow) (frame : Frame) (region : Region)
    where
      item_settles :
          (form : Option Form) (H : Type 0) (item : MarkedNode) (before : Followed)
          (used : List FileKey) → call_form region (node_seen item).itself ≡ form →
          NodeClaim item → (H → NodeFrom P P item) → (H → FollowedFrom P before) →
          Gives U H used (item_settled form (node_seen item) (scope_of follow frame region) before
          used)
          (FollowedFrom P)
      item_settles None H item before used called claim own all =
          used_then U (KeptFrom P item) (FollowedFrom P) H used
          ((node_seen item).settled (scope_of follow frame (inside region)) before.count used) _
          (given U (KeptFrom P item) (NodeFrom P P item) H used
          ((node_seen item).settled (scope_of follow frame (inside region)) before.count used) own
          (claim follow frame (inside region) before.count used follows))
          (λ one later. done_gives U (FollowedFrom P) (H × KeptFrom P item one) later
          (items_and before one)
          (λ h. each_append (NodeFrom P P) before.items (one.node ∷ []) (all h.0) (h.1.0, tt)))
      item_settles (Some form) H item before used called claim own all =
          used_then U (FollowedFrom P) (FollowedFrom P) H used
          (follow frame form (node_seen item).itself before.count used) _
          (given U (FollowedFrom P)
          (NodeFrom P P (node_seen item).itself × IsTemplate (node_seen item).itself) H used
          (follow frame form (node_seen item).itself before.count used)
          (λ h. (
            subst (NodeFrom P P) (sym (node_itself item)) (own h),
            call_is region (node_seen item).itself form called,
          ))
          (follows frame form (node_seen item).itself before.count used))
          (λ more later. done_gives U (FollowedFrom P) (H × FollowedFrom P more) later
          (items_with before more)
          (λ h. each_append (NodeFrom P P) before.items more.items (all h.0) h.1))

      items_settle :
          (H : Type 0) (items : List MarkedNode) (before : Followed) (used : List FileKey) →
          Each NodeClaim items → (H → Each (NodeFrom P P) items) → (H → FollowedFrom P before) →
          Gives U H used (items_behind (map node_seen items) (scope_of follow frame region) before
          used)
          (FollowedFrom P)
      items_settle H [] before used claims own all =
          done_gives U (FollowedFrom P) H used before all
      items_settle H (item ∷ items) before used claims own all =
          used_then U (FollowedFrom P) (FollowedFrom P) H used
          (item_behind (node_seen item) (scope_of follow frame region) before used)
          (items_behind (map node_seen items) (scope_of follow frame region))
          (item_settles (call_form region (node_seen item).itself) H item before used refl claims.0
          (λ h. (own h).0) all)
          (λ after later. items_settle (H × FollowedFrom P after) items after later claims.1
          (λ h. (own h.0).1) (λ h. h.1))

      pair_settles :
          (H : Type 0) (pair : MarkedPair) (before : SettledPairs) (used : List FileKey) →
          PairClaim pair → (H → PairFrom P P pair) → (H → Each (PairFrom P P) before.pairs) →
          Gives U H used (pair_behind (pair_seen pair) (scope_of follow frame region) before used)
          (PairsSettled before (Some (head_at pair)))
      pair_settles H pair before used claim own all =
          let seen = pair_seen pair in
          let inner = under seen.itself.key region in
          used_then U (KeptFrom P pair.item) (PairsSettled before (Some (head_at pair))) H used
          (seen.settled (scope_of follow frame inner) before.count used) _
          (given U (KeptFrom P pair.item) (NodeFrom P P pair.item) H used
          (seen.settled (scope_of follow frame inner) before.count used)
          (λ h. (pair_parts P P pair (own h)).1)
          (claim follow frame inner before.count used follows))
          (λ one later. done_gives U (PairsSettled before (Some (head_at pair)))
          (H × KeptFrom P pair.item one) later (pairs_and before seen.itself one)
          (λ h. (
            each_append (PairFrom P P) before.pairs _ (all h.0) (
              pair_from P P seen.itself.key seen.itself.key_origin one.node
                  (subst P.own (sym (key_itself pair)) (pair_parts P P pair (own h.0)).0)
                  (key_told pair (own h.0)) h.1.0,
              tt,
            ),
            put_behind before.pairs _ (head_at pair) (pair_kept pair one.node h.1.1.0 h.1.1.1.1),
          )))

      pairs_settle :
          (H : Type 0) (pairs : List MarkedPair) (before : SettledPairs) (used : List FileKey) →
          Each PairClaim pairs → (H → Each (PairFrom P P) pairs) →
          (H → Each (PairFrom P P) before.pairs) →
          Gives U H used (pairs_behind (map pair_seen pairs) (scope_of follow frame region) before
          used)
          (PairsSettled before (head_in pairs))
      pairs_settle H [] before used claims own all =
          done_gives U (PairsSettled before None) H used before
          (λ h. (all h, nothing_or (head_in before.pairs)))
      pairs_settle H (pair ∷ pairs) before used claims own all =
          used_then U (PairsSettled before (Some (head_at pair)))
          (PairsSettled before (Some (head_at pair))) H used
          (pair_behind (pair_seen pair) (scope_of follow frame region) before used)
          (pairs_behind (map pair_seen pairs) (scope_of follow frame region))
          (pair_settles H pair before used claims.0 (λ h. (own h).0) all)
          (λ after later. first_kept H pair pairs before after
          (pairs_behind (map pair_seen pairs) (scope_of follow frame region) after later) later
          (pairs_settle (H × PairsSettled before (Some (head_at pair)) after) pairs after later
          claims.1 (λ h. (own h.0).1) (λ h. h.1.0)))
        where
          first_kept :
              (H : Type 0) (pair : MarkedPair) (pairs : List MarkedPair)
              (before after : SettledPairs) (step : Used SettledPairs) (later : List FileKey) →
              Gives U (H × PairsSettled before (Some (head_at pair)) after) later step
              (PairsSettled after (head_in pairs)) →
              Gives U (H × PairsSettled before (Some (head_at pair)) after) later step
              (PairsSettled before (Some (head_at pair)))
          first_kept H pair pairs before after (Ok both) later gives = (
            gives.0,
            λ ends h.
                let settled = gives.1 ends h in (
                  settled.0,
                  settled.1 ∙ (ap (λ head. option_or head (head_in pairs)) h.1.1
                      ∙ either_or (head_in before.pairs) (head_in pairs) (head_at pair)),
                ),
          )
          first_kept H pair pairs before after (Err fault) later gives = tt

  -- ---- by induction over the value

  atom_claim : (H : Type 0) (atom : Value) → ValueFrom P P atom →
      Settles H (atom_settled atom) (SettledFrom atom)
  atom_claim H atom holds follow frame region count used follows =
      done_gives U (SettledFrom atom) H used (record { value = atom; count = count })
      (λ h. (holds, (refl, refl)))

  array_claim :
      (H : Type 0) (items : List MarkedNode) → Each NodeClaim items →
      (H → Each (NodeFrom P P) items) →
      Settles H (array_settled (map node_seen items)) (SettledFrom (value.Array items))
  array_claim H items claims own follow frame region count used follows =
      used_then U (FollowedFrom P) (SettledFrom (value.Array items)) H used
      (items_behind (map node_seen items) (scope_of follow frame region)
      (record { items = []; count = count }) used) _
      (items_settle follow follows frame region H items (record { items = []; count = count }) used
      claims own (λ h. tt))
      (λ all later. done_gives U (SettledFrom (value.Array items)) (H × FollowedFrom P all) later
      (record { value = value.Array all.items; count = all.count })
      (λ h. (
        array_from P P all.items h.1,
        (
          array_head all.items ∙ sym (array_head items),
          array_atom all.items ∙ sym (array_atom items),
        ),
      )))

  object_claim :
      (H : Type 0) (pairs : List MarkedPair) → Each PairClaim pairs →
      (H → Each (PairFrom P P) pairs) →
      Settles H (object_settled (map pair_seen pairs)) (SettledFrom (value.Object pairs))
  object_claim H pairs claims own follow frame region count used follows =
      let start : SettledPairs = record { pairs = []; count = count } in
      used_then U (PairsSettled start (head_in pairs)) (SettledFrom (value.Object pairs)) H used
      (pairs_behind (map pair_seen pairs) (scope_of follow frame region) start used) _
      (pairs_settle follow follows frame region H pairs start used claims own (λ h. tt))
      (λ all later. done_gives U (SettledFrom (value.Object pairs))
      (H × PairsSettled start (head_in pairs) all) later
      (record { value = value.Object all.pairs; count = all.count })
      (λ h. (
        object_from P P all.pairs h.1.0,
        (
          object_head all.pairs ∙ (h.1.1 ∙ sym (object_head pairs)),
          object_atom all.pairs ∙ sym (object_atom pairs),
        ),
      )))

  abbrev Claim : Value → ValueSeen → Type 0
  Claim one seen = Settles (ValueFrom P P one) seen.settled (SettledFrom one)

  of_layer : (layer : Opened) → Parts NodeClaim PairClaim layer → ValueClaim (roll-Value layer)
  of_layer Null parts =
      let is : record { itself = value.Null; settled = atom_settled value.Null }
      ≡ value_seen value.Null = search (rules, the_lemmas) in
      subst ValueClaim (sym value.rolls-Null)
      (subst (Claim value.Null) is (atom_claim _ value.Null (null_from P P)))
  of_layer (Truth truth) parts =
      let atom = value.Bool truth in
      let is : record { itself = atom; settled = atom_settled atom } ≡ value_seen atom =
      search (rules, the_lemmas) in
      subst ValueClaim (sym (value.rolls-Bool truth))
      (subst (Claim atom) is (atom_claim _ atom (truth_from P P truth)))
  of_layer (Number number) parts =
      let atom = value.Number number in
      let is : record { itself = atom; settled = atom_settled atom } ≡ value_seen atom =
      search (rules, the_lemmas) in
      subst ValueClaim (sym (value.rolls-Number number))
      (subst (Claim atom) is (atom_claim _ atom (number_from P P number)))
  of_layer (Version segments) parts =
      let atom = value.Version segments in
      let is : record { itself = atom; settled = atom_settled atom } ≡ value_seen atom =
      search (rules, the_lemmas) in
      subst ValueClaim (sym (value.rolls-Version segments))
      (subst (Claim atom) is (atom_claim _ atom (version_from P P segments)))
  of_layer (Str text) parts =
      let atom = value.Str text in
      let is : record { itself = atom; settled = atom_settled atom } ≡ value_seen atom =
      search (rules, the_lemmas) in
      subst ValueClaim (sym (value.rolls-Str text))
      (subst (Claim atom) is (atom_claim _ atom (text_from P P text)))
  of_layer (Array items) parts =
      let is : record {
        itself = value.Array (map (λ (node : NodeSeen). node.itself) (map node_seen items));
        settled = array_settled (map node_seen items);
      } ≡ value_seen (value.Array items) = search (rules, the_lemmas) in
      subst ValueClaim (sym (value.rolls-Array items))
      (subst (Claim (value.Array items)) is
      (array_claim (ValueFrom P P (value.Array items)) items parts
      (λ all. subst (OpenedFrom P P) (opened_array items) (value_parts P P _ all))))
  of_layer (Object pairs) parts =
      let is : record {
        itself = value.Object (map (λ (pair : PairSeen). pair.itself) (map pair_seen pairs));
        settled = object_settled (map pair_seen pairs);
      } ≡ value_seen (value.Object pairs) = search (rules, the_lemmas) in
      subst ValueClaim (sym (value.rolls-Object pairs))
      (subst (Claim (value.Object pairs)) is
      (object_claim (ValueFrom P P (value.Object pairs)) pairs parts
      (λ all. subst (OpenedFrom P P) (opened_object pairs) (value_parts P P _ all))))

  of_node :
      (origin : Origin) (one : Value) → ValueClaim one →
      NodeClaim (record { origin = origin; value = one })
  of_node origin one claim =
      let node : MarkedNode = record { origin = origin; value = one } in
      let H : Type 0 = NodeFrom P P node in
      let is : node_settled origin (value_seen one) ≡ (node_seen node).settled =
      search (rules, the_lemmas) in
      subst (λ (settling : Settling Counted). Settles H settling (KeptFrom P node)) is
      (λ follow frame region count used follows.
      used_then U (SettledFrom one) (KeptFrom P node) H used
      ((value_seen one).settled (scope_of follow frame region) count used) _
      (given U (SettledFrom one) (ValueFrom P P one) H used
      ((value_seen one).settled (scope_of follow frame region) count used)
      (λ h. (node_parts P P node h).1) (claim follow frame region count used follows))
      (λ settled later. done_gives U (KeptFrom P node) (H × SettledFrom one settled) later
      (record {
        node = record { origin = origin; value = settled.value };
        count = settled.count;
      })
      (λ h. (
        node_from P P origin settled.value (node_parts P P node h.0).0
            (subst (Atom P origin) (sym h.1.1.1) (node_told P P node h.0)) h.1.0
            (subst (Led P origin) (sym h.1.1.0) (node_led P P node h.0)),
        (refl, (h.1.1.0, h.1.1.1)),
      ))))

  of_pair :
      (key : List ℕ) (key_origin : Origin) (item : MarkedNode) → NodeClaim item →
      PairClaim (record { key = key; key_origin = key_origin; item = item })
  of_pair key key_origin item claim =
      let pair : MarkedPair = record { key = key; key_origin = key_origin; item = item } in
      let is : (node_seen item).settled ≡ (pair_seen pair).settled = search (rules, the_lemmas) in
      subst (λ (settling : Settling Counted). Settles (NodeFrom P P item) settling
      (KeptFrom P item))
      is claim

  settles : (node : MarkedNode) → NodeClaim node
  settles = node_induction ValueClaim NodeClaim PairClaim of_layer of_node of_pair

  pub settling_gives :
      (H : Type 0) (node : MarkedNode) (follow : Follow) (frame : Frame) (region : Region)
      (count : ℕ) (used : List FileKey) → FollowFrom P U follow → (H → NodeFrom P P node) →
      Gives U H used (node_settling node (scope_of follow frame region) count used)
      (KeptFrom P node)
  settling_gives H node follow frame region count used follows own =
      given U (KeptFrom P node) (NodeFrom P P node) H used
      (node_settling node (scope_of follow frame region) count used) own
      (settles node follow frame region count used follows)
