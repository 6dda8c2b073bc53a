-- What a mapping of a file begins with in a frame: its first pair, where no expression stands
-- in it.
use Rattle.std.proofs.Common.{◌≡◌, ℕ, Bool, true, false, Option, Some, None, Result, Ok, Err}
use Rattle.std.proofs.Common.{List, [], ◌∷◌, map, refl, ap, ap₂, sym, subst, ◌∙◌, rules}
use Rattle.std.specs.Prelude.{IfOk, codes}
use Rattle.std.specs.List.{AllByRecursion as Each}
use Rattle.pl_base.specs.declared.place.FileKey.{FileKey}
use Rattle.pl_base.specs.declared.place.Place.{Place}
use Rattle.pl_base.specs.declared.node.Node.{Node}
use Rattle.pl_base.specs.declared.node.NodeBody.{NodeBody, out-NodeBody, roll-NodeBody, the_lemmas}
use Rattle.pl_base.specs.declared.node.NodePair.{NodePair}
use Rattle.pl_base.specs.declared.node.NodeBody.TheOpen.{Scalar, Seq, Map}
use Rattle.pl_base.specs.declared.origin.Origin.{Origin}
use Rattle.pl_base.specs.declared.value.Value.{Value, Str, out-Value}
use Rattle.pl_base.specs.declared.value.Value.TheOpen as layer
use Rattle.pl_base.specs.declared.value.MarkedNode.{MarkedNode}
use Rattle.pl_base.specs.declared.value.MarkedPair.{MarkedPair}
use Rattle.pl_eval.specs.LookUps.{made}
use Rattle.pl_frame.specs.declared.frame.Frame.{Frame}
use Rattle.pl_frame.specs.Doubles.{first_double}
use Rattle.pl_frame.specs.Names.{within}
use Rattle.pl_frame.specs.Origins.{literal_at}
use Rattle.pl_template.specs.Cutting.{holds_opening}
use Rattle.pl_template.specs.Forms.{form_of}
use Rattle.pl_template.specs.Keys.{key_form_of}
use Rattle.pl_template.specs.declared.forms.ScalarForm.{ScalarForm}
use Rattle.pl_template.specs.declared.forms.ScalarForm.TheVariants.{Plain}
use Rattle.pl_template.specs.declared.forms.KeyForm.{KeyForm}
use Rattle.pl_template.specs.declared.forms.KeyForm.TheVariants as form
use Rattle.pl_directives.specs.declared.action.Action.{Action}
use Rattle.pl_directives.specs.declared.action.Action.TheVariants as action
use Rattle.pl_directives.specs.declared.fault.ExpandFault.{ExpandFault}
use Rattle.pl_directives.specs.declared.fault.ExpandProblem.{ExpandProblem}
use Rattle.pl_directives.specs.declared.fault.ExpandProblem.TheVariants.{WrongKind, InsertNoMapping}
use Rattle.pl_directives.specs.declared.manner.Kind.{Kind}
use Rattle.pl_directives.specs.declared.manner.Kind.TheVariants as kind
use Rattle.pl_directives.specs.declared.progress.Chain.{Chain}
use Rattle.pl_directives.specs.declared.progress.Chain.TheVariants.{Closed}
use Rattle.pl_directives.specs.declared.progress.Content.{Content}
use Rattle.pl_directives.specs.declared.progress.Content.TheVariants.{Unknown, Items, Pairs}
use Rattle.pl_directives.specs.declared.progress.Counted.{Counted}
use Rattle.pl_directives.specs.declared.progress.Progress.{Progress}
use Rattle.pl_directives.specs.Actions.{asks, key_asks}
use Rattle.pl_directives.specs.Contents.{with_chain, with_count, begun, as_items, as_pairs}
use Rattle.pl_directives.specs.Contents.{put_pair}
use Rattle.pl_directives.specs.Contents.{add_items, add_pairs, finished, absorbed, absorbed_of}
use Rattle.pl_directives.specs.Contents.{items_content, pairs_content, items_behind, pairs_behind}
use Rattle.pl_directives.specs.Contents.{distinct, node_of, nothing_of, object_of}
use Rattle.pl_directives.specs.Counting.{entered}
use Rattle.pl_directives.specs.Manners.{manner_of}
use Rattle.pl_directives.specs.declared.manner.Manner.{Manner}
use Rattle.pl_directives.specs.declared.manner.Manner.TheVariants.{Empty, Stays, Splices, Mixed}
use Rattle.pl_directives.specs.declared.manner.Manner.TheVariants.{Unclosed}
use Rattle.pl_directives.specs.declared.region.Form.{Form}
use Rattle.pl_directives.specs.Regions.{under, is_path, call_form, inside, of_item}
use Rattle.pl_directives.specs.Scalars.{scalar_by, scalar_value}
use Rattle.pl_directives.specs.Strays.{told, key_stray, unless_stray, given_value}
use Rattle.pl_reading.specs.Steps.{◌>>=◌}
use Rattle.pl_recursion.specs.Below.pl_calls.specs.Meant.{◌>>>◌, alone}
use Rattle.pl_recursion.specs.Below.pl_calls.specs.Parts.{Body}
use Rattle.pl_recursion.specs.Expanding.{Filling, Shape, Part, Entry, scalar, sequence, mapping}
use Rattle.pl_recursion.specs.Expanding.{value_by, value_under, body_by, body, turns, path_by, done}
use Rattle.pl_recursion.specs.Expanding.{pair_behind, items_behind as items_filled, item_behind}
use Rattle.pl_recursion.specs.Expanding.{item_by, mapping_behind, collected}
use Rattle.pl_recursion.specs.Putting.{add_by, add_item, splice, spread_of}
use Rattle.pl_recursion.specs.Expanding.{pairs_behind as pairs_filled}
use Rattle.pl_recursion.specs.Expanding.{facet_of, part_of, shape_of, entry_of}
use Rattle.pl_recursion.specs.Following.{Scope, in_frame, in_region}
use Rattle.pl_recursion.specs.Scalars.{path_by as path_text_by}
use Rattle.pl_recursion.specs.Settling.{node_settling}
use Rattle.pl_recursion.specs.declared.followed.Followed.{Followed}
use Rattle.pl_params.specs.Nodes.{text_of, text_in}
use Rattle.pl_eval_laws.proofs.Leads.{Opened, Head, head_at, atom_of}
use Rattle.pl_eval_laws.proofs.Marks.{str_atom, array_atom, object_atom}
use Rattle.pl_eval_laws.proofs.Lists.{Has, each_of}
use Rattle.pl_eval_laws.proofs.Trees.{Asked, Any, NodeFrom, Begun, Calling}
use Rattle.pl_origins.specs.Spots.{Beginning}
use Rattle.pl_origins.proofs.Contents.{Headed}
use Rattle.pl_origins.proofs.Following.{FollowFrom, FollowedFrom, KeptFrom, IsTemplate}
use Rattle.pl_origins.proofs.Following.{settling_gives}
use Rattle.pl_origins.proofs.Frames.{Reads, anything}
use Rattle.pl_origins.proofs.Induction.{BodyParts, written_induction}
use Rattle.pl_origins.proofs.Nodes.{Site, Asks, Stood, beginning_of, firsts_of}
use Rattle.pl_origins.proofs.Plainly.{by_first_key, by_first_value, plain_form, plain_key}
use Rattle.pl_origins.proofs.Steps.{Used, Gives, ok_then, any_then}

-- ---- steps that may call

any_ok :
    {X E : Type 0} (Q : X → Type 0) → ((x : X) → Q x) → (step : Result X E) → IfOk step Q
any_ok Q all (Ok x) = all x
any_ok Q all (Err fault) = tt

after_then :
    {A B : Type 0} (Q : A → Type 0) (S : B → Type 0) (step : Used A)
    (next : A → List FileKey → Used B) → IfOk step (λ both. Q both.0) →
    ((x : A) (later : List FileKey) → Q x → IfOk (next x later) (λ both. S both.0)) →
    IfOk (step >>> next) (λ both. S both.0)
after_then Q S (Ok both) next holds goes = goes both.0 both.1 holds
after_then Q S (Err fault) next holds goes = tt

any_after :
    {A B : Type 0} (S : B → Type 0) (step : Used A) (next : A → List FileKey → Used B) →
    ((x : A) (later : List FileKey) → IfOk (next x later) (λ both. S both.0)) →
    IfOk (step >>> next) (λ both. S both.0)
any_after S (Ok both) next goes = goes both.0 both.1
any_after S (Err fault) next goes = tt

alone_ok :
    {X : Type 0} (S : X → Type 0) (step : Result X ExpandFault) (used : List FileKey) →
    IfOk step S → IfOk (alone step used) (λ both. S both.0)
alone_ok S (Ok x) used holds = holds
alone_ok S (Err fault) used holds = tt

-- ---- a first pair stays, whatever is put behind it

abbrev pub IsFirst : Head → Content → Type 0
IsFirst head Unknown = ⊥
IsFirst head (Items items) = ⊥
IsFirst head (Pairs []) = ⊥
IsFirst head (Pairs (pair ∷ pairs)) = head_at pair ≡ head

module _ (head : Head) where
  abbrev First : Progress → Type 0
  First progress = IsFirst head progress.content

  no_items :
      (place : Place) (more : List MarkedNode) (progress : Progress) → First progress →
      IfOk (add_items place more progress) First
  no_items place more progress first =
      ok_then (IsFirst head) First (items_behind place more progress.content) _
      (by progress.content first) (λ content stays. stays)
    where
      by : (content : Content) → IsFirst head content →
          IfOk (items_behind place more content) (IsFirst head)
      by Unknown first = absurd first
      by (Items items) first = absurd first
      by (Pairs pairs) first = tt

  more_pairs :
      (place : Place) (more : List MarkedPair) (progress : Progress) → First progress →
      IfOk (add_pairs place more progress) First
  more_pairs place more progress first =
      ok_then (IsFirst head) First (pairs_behind place more progress.content) _
      (by progress.content first) (λ content stays. stays)
    where
      by : (content : Content) → IsFirst head content →
          IfOk (pairs_behind place more content) (IsFirst head)
      by Unknown first = absurd first
      by (Items items) first = absurd first
      by (Pairs []) first = absurd first
      by (Pairs (pair ∷ pairs)) first = first

  not_items :
      (problem : ExpandProblem) (place : Place) (progress : Progress) → First progress →
      IfOk (as_items problem place progress) (λ after. ⊥)
  not_items problem place progress first =
      ok_then (λ content. ⊥) (λ after. ⊥) (items_content problem place progress.content) _
      (by progress.content first) (λ content none. none)
    where
      by : (content : Content) → IsFirst head content →
          IfOk (items_content problem place content) (λ after. ⊥)
      by Unknown first = absurd first
      by (Items items) first = absurd first
      by (Pairs pairs) first = tt

  still_pairs :
      (problem : ExpandProblem) (place : Place) (progress : Progress) → First progress →
      IfOk (as_pairs problem place progress) First
  still_pairs problem place progress first =
      ok_then (IsFirst head) First (pairs_content problem place progress.content) _
      (by progress.content first) (λ content stays. stays)
    where
      by : (content : Content) → IsFirst head content →
          IfOk (pairs_content problem place content) (IsFirst head)
      by Unknown first = absurd first
      by (Items items) first = absurd first
      by (Pairs pairs) first = first

  absorbed_stays :
      (opened : Opened) (problem : ExpandProblem) (place : Place) (progress : Progress) →
      First progress → IfOk (absorbed_of opened problem place progress) First
  absorbed_stays (layer.Array items) problem place progress first =
      ok_then (λ after. ⊥) First (as_items problem place progress) (add_items place items)
      (not_items problem place progress first) (λ after none. absurd none)
  absorbed_stays (layer.Object pairs) problem place progress first =
      ok_then First First (as_pairs problem place progress) (add_pairs place pairs)
      (still_pairs problem place progress first) (more_pairs place pairs)
  absorbed_stays layer.Null problem place progress first = tt
  absorbed_stays (layer.Bool truth) problem place progress first = tt
  absorbed_stays (layer.Number number) problem place progress first = tt
  absorbed_stays (layer.Version segments) problem place progress first = tt
  absorbed_stays (layer.Str text) problem place progress first = tt

  abbrev StaysFirst : Filling → Type 0
  StaysFirst fill =
      (scope : Scope) (progress : Progress) (used : List FileKey) → First progress →
      IfOk (fill scope progress used) (λ both. First both.0)

  abbrev ShapeStays : Shape → Type 0
  ShapeStays (scalar text) = Unit {0}
  ShapeStays (sequence fill) = Unit {0}
  ShapeStays (mapping manner fill) = StaysFirst fill

  body_by_stays :
      (shape : Shape) (place : Place) (problem : ExpandProblem) → ShapeStays shape →
      StaysFirst (body_by shape place problem)
  body_by_stays (scalar text) place problem stays scope progress used first =
      any_then (λ both. First both.0)
      (given_value text scope.frame place progress.count scope.region (told progress.content)) _
      (λ one. any_after First (node_settling one.node scope one.count used) _
      (λ one later. alone_ok First
      (absorbed one.node problem place (with_count one.count progress)) later
      (absorbed_stays (out-Value one.node.value) problem place (with_count one.count progress)
      first)))
  body_by_stays (sequence fill) place problem stays scope progress used first =
      any_then (λ both. First both.0) (entered place progress.count) _
      (λ count. ok_then (λ after. ⊥) (λ both. First both.0)
      (as_items problem place (with_count count progress)) _
      (not_items problem place (with_count count progress) first) (λ after none. absurd none))
  body_by_stays (mapping manner fill) place problem stays scope progress used first =
      any_then (λ both. First both.0) (entered place progress.count) _
      (λ count. ok_then First (λ both. First both.0)
      (as_pairs problem place (with_count count progress)) _
      (still_pairs problem place (with_count count progress) first)
      (λ after first. stays scope after used first))

  body_stays :
      (part : Part) (problem : ExpandProblem) → ShapeStays part.shape →
      StaysFirst (body part problem)
  body_stays part problem stays scope progress used first =
      after_then First First
      (body_by part.shape part.place problem scope (with_chain Closed progress) used) _
      (body_by_stays part.shape part.place problem stays scope (with_chain Closed progress) used
      first) (λ after later first. first)

  turns_stay :
      (name : List ℕ) (part : Part) (items : List MarkedNode) → ShapeStays part.shape →
      StaysFirst (turns name part items)
  turns_stay name part [] stays scope progress used first = first
  turns_stay name part (item ∷ items) stays scope progress used first =
      after_then First First
      (body part WrongKind (in_frame (within scope.frame name item) scope) progress used)
      (turns name part items scope)
      (body_stays part WrongKind stays (in_frame (within scope.frame name item) scope) progress
      used first)
      (λ after later first. turns_stay name part items stays scope after later first)

  done_stays : (asked : Action) (part : Part) → ShapeStays part.shape → StaysFirst (done asked part)
  done_stays (action.Put key origin) part stays scope progress used first =
      any_then (λ both. First both.0)
      (unless_stray (key_stray scope.region progress.content key origin.source)) _
      (λ none. any_after First
      (value_under (is_path scope.region progress.content key) key part scope progress.count used)
      _
      (λ one later. alone_ok First
      (put_pair (record { key = key; key_origin = origin; item = one.node }) one.count progress)
      later
      (more_pairs origin.source _ (with_chain Closed (with_count one.count progress)) first)))
  done_stays (action.Run chain) part stays scope progress used first =
      after_then First First (body part WrongKind scope progress used) _
      (body_stays part WrongKind stays scope progress used first) (λ after later first. first)
  done_stays (action.Pass chain) part stays scope progress used first = first
  done_stays (action.Repeat loop count) part stays scope progress used first =
      turns_stay loop.name part loop.items stays scope
      (with_chain Closed (with_count count progress)) used first
  done_stays action.Insert part stays scope progress used first =
      body_stays part InsertNoMapping stays scope progress used first

  abbrev EntryStays : Entry → Type 0
  EntryStays entry = ShapeStays entry.part.shape

  pairs_stay : (entries : List Entry) → Each EntryStays entries → StaysFirst (pairs_filled entries)
  pairs_stay [] stay scope progress used first = first
  pairs_stay (entry ∷ entries) stay scope progress used first =
      after_then First First (pair_behind entry scope progress used)
      (pairs_filled entries scope)
      (any_then (λ both. First both.0)
      (key_asks entry.key scope.frame entry.key_place progress.chain progress.count) _
      (λ asked. done_stays asked entry.part stay.0 scope progress used first))
      (λ after later first. pairs_stay entries stay.1 scope after later first)

  -- ---- by induction over the node

  abbrev BodyClaim : NodeBody → Type 0
  BodyClaim one = ShapeStays (shape_of one)

  abbrev NodeClaim : Node → Type 0
  NodeClaim one = ShapeStays (part_of one).shape

  abbrev PairClaim : NodePair → Type 0
  PairClaim one = EntryStays (entry_of one)

  each_claim :
      {X Y : Type 0} (A : X → Type 0) (B : Y → Type 0) (f : X → Y) (xs : List X) →
      ((x : X) → A x → B (f x)) → Each A xs → Each B (map f xs)
  each_claim A B f [] goes all = tt
  each_claim A B f (x ∷ xs) goes all = (goes x all.0, each_claim A B f xs goes all.1)

  of_layer :
      (layer : Body) → BodyParts NodeClaim PairClaim layer → BodyClaim (roll-NodeBody layer)
  of_layer (Scalar text) claims =
      let is : scalar text ≡ shape_of (roll-NodeBody (Scalar text)) =
      search (rules, the_lemmas) in
      subst ShapeStays is tt
  of_layer (Seq items) claims =
      let is :
      sequence (items_filled (map part_of items)) ≡ shape_of (roll-NodeBody (Seq items)) =
      search (rules, the_lemmas) in
      subst ShapeStays is tt
  of_layer (Map pairs) claims =
      let is :
      mapping (manner_of (map facet_of (map entry_of pairs))) (pairs_filled (map entry_of pairs))
      ≡ shape_of (roll-NodeBody (Map pairs)) =
      search (rules, the_lemmas) in
      subst ShapeStays is
      (pairs_stay (map entry_of pairs)
      (each_claim PairClaim EntryStays entry_of pairs (λ pair claim. claim) claims))

  of_node :
      (place : Place) (one : NodeBody) → BodyClaim one →
      NodeClaim (record { place = place; body = one })
  of_node place one claim =
      let node : Node = record { place = place; body = one } in
      let is : record { place = place; shape = shape_of one } ≡ part_of node =
      search (rules, the_lemmas) in
      subst (λ (part : Part). ShapeStays part.shape) is claim

  of_pair :
      (key : List ℕ) (key_place : Place) (item : Node) → NodeClaim item →
      PairClaim (record { key = key; key_place = key_place; item = item })
  of_pair key key_place item claim =
      let pair : NodePair = record { key = key; key_place = key_place; item = item } in
      let is : record { key = key; key_place = key_place; part = part_of item } ≡ entry_of pair =
      search (rules, the_lemmas) in
      subst EntryStays is claim

  part_stays : (node : Node) → NodeClaim node
  part_stays = written_induction BodyClaim NodeClaim PairClaim of_layer of_node of_pair

  pub entry_stays : (pair : NodePair) → PairClaim pair
  entry_stays pair = of_pair pair.key pair.key_place pair.item (part_stays pair.item)

-- ---- a list of items stays one

abbrev HasItems : Content → Type 0
HasItems Unknown = ⊥
HasItems (Items items) = Unit {0}
HasItems (Pairs pairs) = ⊥

abbrev OfItems : Progress → Type 0
OfItems progress = HasItems progress.content

items_more :
    (place : Place) (more : List MarkedNode) (progress : Progress) → OfItems progress →
    IfOk (add_items place more progress) OfItems
items_more place more progress has =
    ok_then HasItems OfItems (items_behind place more progress.content) _ (by progress.content has)
    (λ content has. has)
  where
    by : (content : Content) → HasItems content → IfOk (items_behind place more content) HasItems
    by Unknown has = absurd has
    by (Items items) has = tt
    by (Pairs pairs) has = absurd has

-- whatever an item or an expression gives
abbrev KeepsItems : Filling → Type 0
KeepsItems fill =
    (scope : Scope) (progress : Progress) (used : List FileKey) → OfItems progress →
    IfOk (fill scope progress used) (λ both. OfItems both.0)

add_by_items :
    (called : Option Form) (scope : Scope) (item : MarkedNode) (progress : Progress)
    (used : List FileKey) → OfItems progress →
    IfOk (add_by called scope item progress used) (λ both. OfItems both.0)
add_by_items None scope item progress used has =
    alone_ok OfItems (add_items item.origin.source (item ∷ []) progress) used
    (items_more item.origin.source (item ∷ []) progress has)
add_by_items (Some called) scope item progress used has =
    any_after OfItems (scope.follow scope.frame called item progress.count used) _
    (λ more later. alone_ok OfItems
    (add_items item.origin.source more.items (with_count more.count progress)) later
    (items_more item.origin.source more.items (with_count more.count progress) has))

add_item_items :
    (scope : Scope) (item : MarkedNode) (progress : Progress) (used : List FileKey) →
    OfItems progress → IfOk (add_item scope item progress used) (λ both. OfItems both.0)
add_item_items scope item = add_by_items (call_form scope.region item) scope item

splice_items :
    (scope : Scope) (origin : Origin) (content : Content) (progress : Progress)
    (used : List FileKey) → OfItems progress →
    IfOk (splice scope origin content progress used) (λ both. OfItems both.0)
splice_items scope origin Unknown progress used has = has
splice_items scope origin (Items items) progress used has =
    alone_ok OfItems (add_items origin.source items progress) used
    (items_more origin.source items progress has)
splice_items scope origin (Pairs []) progress used has = has
splice_items scope origin (Pairs (pair ∷ pairs)) progress used has =
    any_then (λ both. OfItems both.0) (object_of origin (pair ∷ pairs)) _
    (λ item. add_item_items scope item progress used has)

spread_items :
    (opened : Opened) (scope : Scope) (node : MarkedNode) (progress : Progress)
    (used : List FileKey) → OfItems progress →
    IfOk (spread_of opened scope node progress used) (λ both. OfItems both.0)
spread_items (layer.Array items) scope node progress used has =
    alone_ok OfItems (add_items node.origin.source items progress) used
    (items_more node.origin.source items progress has)
spread_items (layer.Object pairs) scope node progress used has =
    add_item_items scope node progress used has
spread_items layer.Null scope node progress used has =
    add_item_items scope node progress used has
spread_items (layer.Bool truth) scope node progress used has =
    add_item_items scope node progress used has
spread_items (layer.Number number) scope node progress used has =
    add_item_items scope node progress used has
spread_items (layer.Version segments) scope node progress used has =
    add_item_items scope node progress used has
spread_items (layer.Str text) scope node progress used has =
    add_item_items scope node progress used has

empty_items : (found : Result Counted ExpandFault) (scope : Scope) (progress : Progress)
    (used : List FileKey) → OfItems progress →
    IfOk (found >>= λ one.
    add_item scope one.node (with_chain Closed (with_count one.count progress)) used)
    (λ both. OfItems both.0)
empty_items found scope progress used has =
    any_then (λ both. OfItems both.0) found _
    (λ one. add_item_items scope one.node (with_chain Closed (with_count one.count progress)) used
    has)

mapping_items : (manner : Manner) (fill : Filling) (place : Place) →
    KeepsItems (mapping_behind manner fill place)
mapping_items Empty fill place scope progress used has =
    empty_items
    (finished (literal_at scope.frame place) (begun kind.Pairs Closed progress.count)) scope
    progress used has
mapping_items Stays fill place scope progress used has =
    any_after OfItems
    (fill (in_region (of_item scope.region) scope)
    (begun kind.Pairs progress.chain progress.count) used) _
    (λ inner later. any_then (λ both. OfItems both.0)
    (finished (literal_at scope.frame place) inner) _
    (λ one. add_item_items scope one.node (with_chain inner.chain (with_count inner.count progress))
    later has))
mapping_items (Splices of) fill place scope progress used has =
    any_after OfItems
    (fill (in_region (of_item scope.region) scope) (begun of progress.chain progress.count) used) _
    (λ inner later. splice_items scope (literal_at scope.frame place) inner.content
    (with_chain inner.chain (with_count inner.count progress)) later has)
mapping_items (Mixed other) fill place scope progress used has = tt
mapping_items (Unclosed key) fill place scope progress used has = tt

item_items : (shape : Shape) (place : Place) → KeepsItems (item_by shape place)
item_items (scalar text) place scope progress used has =
    any_then (λ both. OfItems both.0)
    (given_value text scope.frame place progress.count (of_item scope.region) None) _
    (λ one. any_after OfItems (node_settling one.node scope one.count used) _
    (λ one later. spread_items (out-Value one.node.value) scope one.node
    (with_chain Closed (with_count one.count progress)) later has))
item_items (sequence fill) place scope progress used has =
    any_after OfItems
    (collected kind.Items fill place (in_region (inside scope.region) scope) progress.count used) _
    (λ one later. add_item_items scope one.node (with_chain Closed (with_count one.count progress))
    later has)
item_items (mapping manner fill) place scope progress used has =
    any_then (λ both. OfItems both.0) (entered place progress.count) _
    (λ count. mapping_items manner fill place scope (with_count count progress) used has)

parts_items : (parts : List Part) → KeepsItems (items_filled parts)
parts_items [] scope progress used has = has
parts_items (part ∷ parts) scope progress used has =
    after_then OfItems OfItems (item_behind part scope progress used) (items_filled parts scope)
    (item_items part.shape part.place scope progress used has)
    (λ after later has. parts_items parts scope after later has)

abbrev pub SequenceHeaded : Asked → Filling → Type 0
SequenceHeaded P fill =
    (chain : Chain) (count : ℕ) (scope : Scope) (used : List FileKey) (origin : Origin) →
    IfOk (fill scope (begun kind.Items chain count) used) (λ both. Headed P origin both.0.content)

pub sequence_headed : (P : Asked) (parts : List Part) → SequenceHeaded P (items_filled parts)
sequence_headed P parts chain count scope used origin =
    by (items_filled parts scope (begun kind.Items chain count) used)
    (parts_items parts scope (begun kind.Items chain count) used tt)
  where
    content_by : (content : Content) → HasItems content → Headed P origin content
    content_by Unknown has = absurd has
    content_by (Items items) has = tt
    content_by (Pairs pairs) has = absurd has

    by : (step : Used Progress) → IfOk step (λ both. OfItems both.0) →
        IfOk step (λ both. Headed P origin both.0.content)
    by (Ok both) has = content_by both.0.content has
    by (Err fault) has = tt

-- ---- a value with no expression in it

abbrev shape_text : Shape → List ℕ
shape_text (scalar text) = text
shape_text other = []

-- what becomes of it: a text stays one, and a collection is no atom
abbrev IsValue : Frame → Place → Shape → MarkedNode → Type 0
IsValue frame place (scalar text) node =
    (node.origin ≡ literal_at frame place) × (atom_of node.value ≡ Some (Str text))
IsValue frame place (sequence fill) node = atom_of node.value ≡ None
IsValue frame place (mapping manner fill) node = atom_of node.value ≡ None

abbrev NoFiles : List FileKey → Type 0
NoFiles used = Unit {0}

-- of what is settled nothing is asked
settled_is :
    (node : MarkedNode) (scope : Scope) (count : ℕ) (used : List FileKey) →
    IfOk (node_settling node scope count used) (λ both. KeptFrom Any node both.0)
settled_is node scope count used =
    by (node_settling node scope count used)
    (settling_gives Any NoFiles (Unit {0}) node scope.follow scope.frame scope.region count used
    follows (λ h. anything node))
  where
    followed_by : (H : Type 0) (used : List FileKey) (step : Used Followed) →
        Gives NoFiles H used step (FollowedFrom Any)
    followed_by H used (Ok both) =
        (λ ends. tt, λ ends h. each_of (NodeFrom Any Any) anything both.0.items)
    followed_by H used (Err fault) = tt

    follows : FollowFrom Any NoFiles scope.follow
    follows frame form item count used =
        followed_by (NodeFrom Any Any item × IsTemplate item) used
        (scope.follow frame form item count used)

    by : (step : Used Counted) → Gives NoFiles (Unit {0}) used step (KeptFrom Any node) →
        IfOk step (λ both. KeptFrom Any node both.0)
    by (Ok both) gives = gives.1 tt tt
    by (Err fault) gives = tt

collected_is :
    (origin : Origin) (progress : Progress) →
    IfOk (finished origin progress) (λ one. atom_of one.node.value ≡ None)
collected_is origin progress =
    ok_then (λ node. atom_of node.value ≡ None) (λ one. atom_of one.node.value ≡ None)
    (node_of origin progress.content) _ (by progress.content) (λ node is. is)
  where
    object : (pairs : List MarkedPair) →
        IfOk (node_of origin (Pairs pairs)) (λ node. atom_of node.value ≡ None)
    object pairs =
        any_then (λ node. atom_of node.value ≡ None) (distinct (first_double pairs) pairs) _
        (λ pairs. object_atom pairs)

    by : (content : Content) → IfOk (node_of origin content) (λ node. atom_of node.value ≡ None)
    by Unknown = object []
    by (Items items) = array_atom items
    by (Pairs pairs) = object pairs

scalar_is :
    (text : List ℕ) (made : ScalarForm) → made ≡ Plain → (frame : Frame) (place : Place)
    (count : ℕ) →
    IfOk (scalar_by made text frame place count) (λ one. IsValue frame place (scalar text) one.node)
scalar_is text made is frame place count =
    subst (λ (made : ScalarForm).
    IfOk (scalar_by made text frame place count)
    (λ one. IsValue frame place (scalar text) one.node))
    (sym is) (refl, str_atom text)

path_is :
    (text : List ℕ) (made : ScalarForm) → made ≡ Plain → (frame : Frame) (place : Place) →
    IfOk (path_text_by made text frame place)
    (λ path. (path.origin ≡ literal_at frame place) × (path.key ≡ text))
path_is text made is frame place =
    subst (λ (made : ScalarForm). IfOk (path_text_by made text frame place)
    (λ path. (path.origin ≡ literal_at frame place) × (path.key ≡ text))) (sym is) (refl, refl)

path_value :
    (shape : Shape) (place : Place) (frame : Frame) (count : ℕ) →
    holds_opening (shape_text shape) ≡ false →
    IfOk (path_by shape place frame count) (λ one. IsValue frame place shape one.node)
path_value (scalar text) place frame count plain =
    any_then (λ one. IsValue frame place (scalar text) one.node) (entered place count) _
    (λ count. ok_then (λ path. (path.origin ≡ literal_at frame place) × (path.key ≡ text))
    (λ one. IsValue frame place (scalar text) one.node)
    (path_text_by (form_of text) text frame place) _
    (path_is text (form_of text) (plain_form text plain) frame place)
    (λ path is. (
      is.0,
      str_atom path.key ∙ ap (λ (text : List ℕ). Some (Str text)) is.1,
    )))
path_value (sequence fill) place frame count plain =
    any_then (λ one. IsValue frame place (sequence fill) one.node) (entered place count) _
    (λ count. tt)
path_value (mapping manner fill) place frame count plain =
    any_then (λ one. IsValue frame place (mapping manner fill) one.node) (entered place count) _
    (λ count. tt)

value_is :
    (shape : Shape) (place : Place) (scope : Scope) (count : ℕ) (used : List FileKey) →
    holds_opening (shape_text shape) ≡ false →
    IfOk (value_by shape place scope count used)
    (λ both. IsValue scope.frame place shape both.0.node)
value_is (scalar text) place scope count used plain =
    ok_then (λ one. IsValue scope.frame place (scalar text) one.node)
    (λ both. IsValue scope.frame place (scalar text) both.0.node)
    (scalar_value text scope.frame place count) _
    (any_then (λ one. IsValue scope.frame place (scalar text) one.node) (entered place count) _
    (λ count. scalar_is text (form_of text) (plain_form text plain) scope.frame place count))
    (λ one is. by one is (node_settling one.node scope one.count used)
    (settled_is one.node scope one.count used))
  where
    by : (one : Counted) → IsValue scope.frame place (scalar text) one.node →
        (step : Used Counted) → IfOk step (λ both. KeptFrom Any one.node both.0) →
        IfOk step (λ both. IsValue scope.frame place (scalar text) both.0.node)
    by one is (Ok both) kept = (kept.1.0 ∙ is.0, kept.1.1.1 ∙ is.1)
    by one is (Err fault) kept = tt
value_is (sequence fill) place scope count used plain =
    any_then (λ both. atom_of both.0.node.value ≡ None) (entered place count) _
    (λ count. any_after (λ (one : Counted). atom_of one.node.value ≡ None)
    (fill scope (begun kind.Items Closed count) used) _
    (λ inner later. alone_ok (λ (one : Counted). atom_of one.node.value ≡ None)
    (finished (literal_at scope.frame place) inner) later
    (collected_is (literal_at scope.frame place) inner)))
value_is (mapping manner fill) place scope count used plain =
    any_then (λ both. atom_of both.0.node.value ≡ None) (entered place count) _
    (λ count. any_after (λ (one : Counted). atom_of one.node.value ≡ None)
    (fill scope (begun kind.Pairs Closed count) used) _
    (λ inner later. alone_ok (λ (one : Counted). atom_of one.node.value ≡ None)
    (finished (literal_at scope.frame place) inner) later
    (collected_is (literal_at scope.frame place) inner)))

under_is :
    (b : Bool) (key : List ℕ) (part : Part) (scope : Scope) (count : ℕ) (used : List FileKey) →
    holds_opening (shape_text part.shape) ≡ false →
    IfOk (value_under b key part scope count used)
    (λ both. IsValue scope.frame part.place part.shape both.0.node)
under_is true key part scope count used plain =
    alone_ok (λ (one : Counted). IsValue scope.frame part.place part.shape one.node)
    (path_by part.shape part.place scope.frame count) used
    (path_value part.shape part.place scope.frame count plain)
under_is false key part scope count used plain =
    value_is part.shape part.place (in_region (under key scope.region) scope) count used plain

-- ---- what a mapping begins with

abbrev entry_begins : Entry → Beginning
entry_begins entry =
    record { key = entry.key; place = entry.part.place; text = shape_text entry.part.shape }

module _ (P : Asked) (R : Site) (reads : Reads R P) (place : Place) where
  abbrev Heads : Frame → Content → Type 0
  Heads frame content = Headed P (literal_at frame place) content

  -- where an expression stands, nothing more is asked
  headed_any : Asks R place → (frame : Frame) (content : Content) → Heads frame content
  headed_any asks frame Unknown = tt
  headed_any asks frame (Items items) = tt
  headed_any asks frame (Pairs []) = tt
  headed_any asks frame (Pairs (pair ∷ pairs)) = λ is. by (atom_of pair.item.value)
    where
      by : (atom : Option Value) → Has (Calling P (literal_at frame place) pair.item.origin) atom
      by None = tt
      by (Some one) = λ files. reads.asked place pair.item.origin.source one asks

  -- ---- no expression stands in the first pair

  abbrev Puts : List ℕ → Action → Type 0
  Puts key (action.Put name origin) = name ≡ key
  Puts key (action.Run chain) = ⊥
  Puts key (action.Pass chain) = ⊥
  Puts key (action.Repeat loop count) = ⊥
  Puts key action.Insert = ⊥

  plain_asks :
      (asked : KeyForm) → asked ≡ form.Plain → (key : List ℕ) (frame : Frame) (at : Place)
      (chain : Chain) (count : ℕ) → IfOk (asks asked key frame at chain count) (Puts key)
  plain_asks asked is key frame at chain count =
      subst (λ (asked : KeyForm). IfOk (asks asked key frame at chain count) (Puts key)) (sym is)
      refl

  -- what is known of the value, where an expression stands in it or doesn't
  abbrev IsKnown : Bool → Frame → Place → Shape → MarkedNode → Type 0
  IsKnown true frame at shape node = Unit {0}
  IsKnown false frame at shape node = IsValue frame at shape node

  known_under :
      (b path : Bool) (key : List ℕ) (part : Part) (scope : Scope) (count : ℕ)
      (used : List FileKey) → holds_opening (shape_text part.shape) ≡ b →
      IfOk (value_under path key part scope count used)
      (λ both. IsKnown b scope.frame part.place part.shape both.0.node)
  known_under true path key part scope count used is =
      any_ok (λ both. Unit {0}) (λ both. tt) (value_under path key part scope count used)
  known_under false path key part scope count used is =
      under_is path key part scope count used is

  value_begun :
      (frame : Frame) (at : Place) (shape : Shape) (node : MarkedNode) →
      holds_opening (shape_text shape) ≡ true →
      R.begins place (record { key = codes "template"; place = at; text = shape_text shape }) →
      Has (Calling P (literal_at frame place) node.origin) (atom_of node.value)
  value_begun frame at shape node expression stands = by (atom_of node.value)
    where
      by : (atom : Option Value) → Has (Calling P (literal_at frame place) node.origin) atom
      by None = tt
      by (Some one) =
          λ files. reads.asked place node.origin.source one
          (by_first_value R place at (shape_text shape) expression stands)

  begun_by :
      (frame : Frame) (key : List ℕ) (at : Place) (shape : Shape) (node : MarkedNode) →
      R.begins place (record { key = key; place = at; text = shape_text shape }) →
      IsValue frame at shape node →
      Begun P (literal_at frame place)
      (record { key = key; path = node.origin; atom = atom_of node.value })
  begun_by frame key at (scalar text) node stands is named =
      subst (Has (Calling P (literal_at frame place) node.origin)) (sym is.1)
      (λ files. subst (λ (origin : Origin). P.calls place origin.source (Str text)) (sym is.0)
      (reads.calls place at text (subst (λ (key : List ℕ). R.begins place (record {
        key = key;
        place = at;
        text = text;
      })) named stands)))
  begun_by frame key at (sequence fill) node stands is named =
      subst (Has (Calling P (literal_at frame place) node.origin)) (sym is) tt
  begun_by frame key at (mapping manner fill) node stands is named =
      subst (Has (Calling P (literal_at frame place) node.origin)) (sym is) tt

  begun_known :
      (b : Bool) (frame : Frame) (key : List ℕ) (at : Place) (shape : Shape) (node : MarkedNode) →
      holds_opening (shape_text shape) ≡ b →
      R.begins place (record { key = key; place = at; text = shape_text shape }) →
      IsKnown b frame at shape node →
      Begun P (literal_at frame place)
      (record { key = key; path = node.origin; atom = atom_of node.value })
  begun_known true frame key at shape node is stands value named =
      value_begun frame at shape node is
      (subst (λ (key : List ℕ). R.begins place (record {
        key = key;
        place = at;
        text = shape_text shape;
      })) named stands)
  begun_known false frame key at shape node is stands value named =
      begun_by frame key at shape node stands value named

  -- the first pair, of which that holds
  abbrev Begins : Frame → Progress → Type 0
  Begins frame progress =
      (head : Head) × (IsFirst head progress.content × Begun P (literal_at frame place) head)

  put_first :
      (of : Kind) (chain : Chain) (before count : ℕ) (frame : Frame) (pair : MarkedPair) →
      Begun P (literal_at frame place) (head_at pair) →
      IfOk (put_pair pair count (begun of chain before)) (Begins frame)
  put_first kind.Unknown chain before count frame pair holds = (head_at pair, (refl, holds))
  put_first kind.Items chain before count frame pair holds = tt
  put_first kind.Pairs chain before count frame pair holds = (head_at pair, (refl, holds))

  done_begins :
      (asked : Action) (key : List ℕ) → Puts key asked → (part : Part) →
      R.begins place
      (record { key = key; place = part.place; text = shape_text part.shape }) →
      (b : Bool) → holds_opening (shape_text part.shape) ≡ b → (of : Kind) (chain : Chain)
      (count : ℕ) (scope : Scope) (used : List FileKey) →
      IfOk (done asked part scope (begun of chain count) used) (λ both. Begins scope.frame both.0)
  done_begins (action.Put name origin) key is part stands b plain of chain count scope used =
      any_then (λ both. Begins scope.frame both.0)
      (unless_stray (key_stray scope.region (nothing_of of) name origin.source)) _
      (λ none. after_then
      (λ (one : Counted). IsKnown b scope.frame part.place part.shape one.node)
      (Begins scope.frame)
      (value_under (is_path scope.region (nothing_of of) name) name part scope count used) _
      (known_under b (is_path scope.region (nothing_of of) name) name part scope count used plain)
      (λ one later value. alone_ok (Begins scope.frame)
      (put_pair (record { key = name; key_origin = origin; item = one.node }) one.count
      (begun of chain count)) later
      (put_first of chain count one.count scope.frame _
      (begun_known b scope.frame name part.place part.shape one.node plain
      (subst (λ (key : List ℕ). R.begins place (record {
        key = key;
        place = part.place;
        text = shape_text part.shape;
      })) (sym is) stands) value))))
  done_begins (action.Run chain) key is part stands b plain of ended count scope used =
      absurd is
  done_begins (action.Pass chain) key is part stands b plain of ended count scope used =
      absurd is
  done_begins (action.Repeat loop count) key is part stands b plain of chain before scope used =
      absurd is
  done_begins action.Insert key is part stands b plain of chain count scope used =
      absurd is

  begins_headed :
      (frame : Frame) (content : Content) (head : Head) → IsFirst head content →
      Begun P (literal_at frame place) head → Heads frame content
  begins_headed frame Unknown head first holds = absurd first
  begins_headed frame (Items items) head first holds = absurd first
  begins_headed frame (Pairs []) head first holds = absurd first
  begins_headed frame (Pairs (pair ∷ pairs)) head first holds =
      subst (Begun P (literal_at frame place)) (sym first) holds

  abbrev pub MappingHeaded : Filling → Type 0
  MappingHeaded fill =
      (of : Kind) (chain : Chain) (count : ℕ) (scope : Scope) (used : List FileKey) →
      IfOk (fill scope (begun of chain count) used) (λ both. Heads scope.frame both.0.content)

  nothing_headed : (of : Kind) (frame : Frame) → Heads frame (nothing_of of)
  nothing_headed kind.Unknown frame = tt
  nothing_headed kind.Items frame = tt
  nothing_headed kind.Pairs frame = tt

  entries_headed :
      (entry : Entry) (entries : List Entry) → R.begins place (entry_begins entry) →
      ((head : Head) → Each (EntryStays head) (entry ∷ entries)) →
      MappingHeaded (pairs_filled (entry ∷ entries))
  entries_headed entry entries stands stay of chain count scope used =
      by (holds_opening entry.key) refl
    where
      kept : (head : Head) → Begun P (literal_at scope.frame place) head →
          (step : Used Progress) → IfOk step (λ both. IsFirst head both.0.content) →
          IfOk step (λ both. Heads scope.frame both.0.content)
      kept head holds (Ok both) first =
          begins_headed scope.frame both.0.content head first holds
      kept head holds (Err fault) first = tt

      by : (key : Bool) → holds_opening entry.key ≡ key →
          IfOk (pairs_filled (entry ∷ entries) scope (begun of chain count) used)
          (λ both. Heads scope.frame both.0.content)
      by true expression =
          any_ok (λ both. Heads scope.frame both.0.content)
          (λ both. headed_any (by_first_key R place entry.key entry.part.place
          (shape_text entry.part.shape) expression stands) scope.frame both.0.content)
          (pairs_filled (entry ∷ entries) scope (begun of chain count) used)
      by false plain =
          after_then (Begins scope.frame) (λ (after : Progress). Heads scope.frame after.content)
          (pair_behind entry scope (begun of chain count) used) (pairs_filled entries scope)
          (ok_then (Puts entry.key) (λ both. Begins scope.frame both.0)
          (key_asks entry.key scope.frame entry.key_place chain count) _
          (plain_asks (key_form_of entry.key) (plain_key entry.key plain) entry.key scope.frame
          entry.key_place chain count)
          (λ asked puts. done_begins asked entry.key puts entry.part stands
          (holds_opening (shape_text entry.part.shape)) refl of chain count scope used))
          (λ after later begins. kept begins.0 begins.1.1 (pairs_filled entries scope after later)
          (pairs_stay begins.0 entries (stay begins.0).1 scope after later begins.1.0))

  -- ---- of a file's mapping

  text_is : (node : Node) → shape_text (part_of node).shape ≡ text_of node
  text_is node =
      part_text node.place node.body
      ∙ (ap (λ (one : NodeBody). shape_text (shape_of one)) (sym (rolled node.body))
      ∙ layer_text (out-NodeBody node.body))
    where
      rolled : (body : NodeBody) → roll-NodeBody (out-NodeBody body) ≡ body
      rolled body = search (rules, the_lemmas)

      part_text : (at : Place) (body : NodeBody) →
          shape_text (part_of (record { place = at; body = body })).shape
          ≡ shape_text (shape_of body)
      part_text at body = search (rules, the_lemmas)

      layer_text : (layer : Body) → shape_text (shape_of (roll-NodeBody layer)) ≡ text_in layer
      layer_text (Scalar text) = search (rules, the_lemmas)
      layer_text (Seq items) = search (rules, the_lemmas)
      layer_text (Map pairs) = search (rules, the_lemmas)

  begins_is : (pair : NodePair) → entry_begins (entry_of pair) ≡ beginning_of pair
  begins_is pair =
      entry_is pair.key pair.key_place pair.item
      ∙ ap₂ (λ (at : Place) (text : List ℕ). record { key = pair.key; place = at; text = text })
      (place_is pair.item.place pair.item.body) (text_is pair.item)
    where
      entry_is : (key : List ℕ) (key_place : Place) (item : Node) →
          entry_begins (entry_of (record { key = key; key_place = key_place; item = item }))
          ≡ record {
            key = key;
            place = (part_of item).place;
            text = shape_text (part_of item).shape;
          }
      entry_is key key_place item = search (rules, the_lemmas)

      place_is : (at : Place) (body : NodeBody) →
          (part_of (record { place = at; body = body })).place ≡ at
      place_is at body = search (rules, the_lemmas)

  pub pairs_headed : (pairs : List NodePair) → Each (Stood R place) (firsts_of pairs) →
      MappingHeaded (pairs_filled (map entry_of pairs))
  pairs_headed [] stands of chain count scope used = nothing_headed of scope.frame
  pairs_headed (pair ∷ pairs) stands of chain count scope used =
      entries_headed (entry_of pair) (map entry_of pairs)
      (subst (R.begins place) (sym (begins_is pair)) stands.0)
      (λ head. all_stay head (pair ∷ pairs)) of chain count scope used
    where
      all_stay : (head : Head) (pairs : List NodePair) →
          Each (EntryStays head) (map entry_of pairs)
      all_stay head [] = tt
      all_stay head (pair ∷ pairs) = (entry_stays head pair, all_stay head pairs)
