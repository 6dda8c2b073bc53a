-- A root file over two sets of files that agree on the used ones.
use Rattle.std.proofs.Common.{◌≡◌, ℕ, Bool, true, false, Option, Some, None, Result, Ok, Err}
use Rattle.std.proofs.Common.{List, [], ◌∷◌, map, refl, ap, sym, subst, ◌∙◌, rules}
use Rattle.std.specs.Prelude.{IfOk, Contains, codes, filter, not}
use Rattle.std.specs.FinMap as finite
use Rattle.std.specs.List.{AllByRecursion as Each}
use Rattle.pl_base.specs.declared.expanded.Argument.{Argument as RunArgument}
use Rattle.pl_base.specs.declared.place.FileKey.{FileKey}
use Rattle.pl_base.specs.declared.place.Place.{Place}
use Rattle.pl_base.specs.declared.node.Node.{Node}
use Rattle.pl_base.specs.declared.node.NodeBody.{NodeBody, roll-NodeBody, the_lemmas}
use Rattle.pl_base.specs.declared.node.NodePair.{NodePair}
use Rattle.pl_base.specs.declared.node.NodeBody.TheOpen.{Scalar, Seq, Map}
use Rattle.pl_base.specs.declared.origin.Origin.{Origin}
use Rattle.pl_base.specs.declared.value.Value.{Value, out-Value}
use Rattle.pl_base.specs.declared.value.Value.TheOpen.{Value-F}
use Rattle.pl_base.specs.declared.value.Value.TheOpen as layer
use Rattle.pl_base.specs.declared.value.MarkedNode.{MarkedNode}
use Rattle.pl_base.specs.declared.value.MarkedPair.{MarkedPair}
use Rattle.pl_frame.specs.declared.frame.Frame.{Frame}
use Rattle.pl_frame.specs.declared.frame.Parameter.{Parameter}
use Rattle.pl_frame.specs.Names.{within as turn_frame}
use Rattle.pl_frame.specs.Origins.{literal_at}
use Rattle.pl_base.specs.Texts.{is}
use Rattle.pl_paths.specs.Paths.{cut_path}
use Rattle.pl_directives.specs.declared.action.Action.{Action}
use Rattle.pl_directives.specs.declared.action.Action.TheVariants.{Put, Run, Pass, Repeat, Insert}
use Rattle.pl_directives.specs.declared.fault.ExpandFault.{ExpandFault}
use Rattle.pl_directives.specs.declared.fault.ExpandProblem.{ExpandProblem}
use Rattle.pl_directives.specs.declared.fault.ExpandProblem.TheVariants.{WrongKind, InsertNoMapping}
use Rattle.pl_directives.specs.declared.manner.Kind.TheVariants as content
use Rattle.pl_directives.specs.declared.progress.Chain.TheVariants.{Closed}
use Rattle.pl_directives.specs.declared.region.Form.TheVariants.{Variables as InVariables}
use Rattle.pl_directives.specs.declared.region.Region.TheVariants.{Free, Calls}
use Rattle.pl_directives.specs.Actions.{key_asks}
use Rattle.pl_directives.specs.Contents.{begun}
use Rattle.pl_directives.specs.Counting.{entered}
use Rattle.pl_directives.specs.Regions.{under as inside_key}
use Rattle.pl_directives.specs.Scalars.{scalar_value}
use Rattle.pl_reading.specs.Steps.{◌>>=◌}
use Rattle.pl_calls.specs.Meant.{◌>>>◌}
use Rattle.pl_calls.specs.Parts.{Body, body_of}
use Rattle.pl_params.specs.Nodes.{under}
use Rattle.pl_calls.specs.Reaching.{Opens, opens as opens_of, target, same_file, called_then}
use Rattle.pl_calls.specs.Reaching.{found_at, opened_at}
use Rattle.pl_calls.specs.declared.files.Parsed.{Parsed}
use Rattle.pl_calls.specs.declared.reaching.Home.{Home}
use Rattle.pl_calls.specs.declared.reaching.Opened.{Opened as OpenedFile}
use Rattle.pl_recursion.specs.Expanding.{expanded, part_of, done as done_for}
use Rattle.pl_recursion.specs.Following.{scope_of}
use Rattle.pl_recursion.specs.Levels.{followed}
use Rattle.pl_recursion.specs.Settling.{node_settling}
use Rattle.pl_origins.proofs.Induction.{BodyParts, written_induction}
use Rattle.pl_origins.proofs.Steps.{Used, Gives}
use Rattle.pl_expand.specs.declared.filling.Early.{Early}
use Rattle.pl_expand.specs.Below.pl_extends.specs.declared.rooting.RootFilling.{RootFilling}
use Rattle.pl_expand.specs.declared.root.RootTree.{RootTree}
use Rattle.pl_expand.specs.Below.pl_root.specs.declared.root_key.RootKey.{RootKey}
use Rattle.pl_expand.specs.Below.pl_root.specs.declared.root_key.RootKey.TheVariants as key
use Rattle.pl_expand.specs.Below.pl_extends.specs.Extending.{extended, value_extended}
use Rattle.pl_expand.specs.Below.pl_extends.specs.Rooting.{Rooting, filled_with, chained, counting, misplaced}
use Rattle.pl_expand.specs.Below.pl_extends.specs.Rooting.{unless_misplaced, extended_behind, key_put, named_put}
use Rattle.pl_expand.specs.Below.pl_extends.specs.Rooting.{item_put, given_by, given_put, all_given_put, value_put}
use Rattle.pl_expand.specs.Below.pl_extends.specs.Rooting.{text_put, list_put, pairs_put, mapping_put, node_put}
use Rattle.pl_expand.specs.Below.pl_extends.specs.Rooting.{turns_put, asked_put, pair_put, node_seen, body_seen}
use Rattle.pl_expand.specs.Below.pl_extends.specs.Rooting.{pair_seen}
use Rattle.pl_expand.specs.Below.pl_extends.proofs.Itself.{node_itself}
use Rattle.pl_expand.specs.Below.pl_root.specs.Resources.{earliest}
use Rattle.pl_expand.specs.Tree.{Set, unless, early_by}
use Rattle.pl_expand.specs.Below.pl_root.specs.Keys.{root_complaints}
use Rattle.pl_expand.specs.Below.pl_root.specs.Arguments.{parameters_by}
use Rattle.pl_expand.specs.Below.pl_root.specs.Frames.{first_frame}
use Rattle.pl_expand.specs.Below.pl_root.specs.Keys.{root_key}
use Rattle.pl_expand.specs.Tree.{passed_over}
use Rattle.pl_expand.specs.Tree.{variables_pair, root_pair, given_to, early_behind, root_pairs}
use Rattle.pl_expand.specs.Tree.{root_from, root_mapping, filled_root, pairs_expanded, home_of}
use Rattle.pl_expand.specs.Below.pl_root.specs.Frames.{second_frame}
use Rattle.pl_expand.specs.Tree.{bare_home, used_files, whole, mapping_expanded, bare_expanded}
use Rattle.pl_expand.specs.Tree.{other_expanded, body_expanded_by, body_expanded, root_node}
use Rattle.pl_expand.specs.Tree.{tree_of}
use Rattle.pl_used_files.specs.Alone.{AgreeOn, UsedFilesDecide}
use Rattle.pl_used_files.proofs.Agreeing.{Agree, done, both_alone, same_then, both_then}
use Rattle.pl_used_files.proofs.Called.{OpensAgree, followed_agree, extended_agree}
use Rattle.pl_used_files.proofs.Called.{value_extends_agree}
use Rattle.pl_used_files.proofs.Ends.{first_in, AreUsed, then_gives, all_used}
use Rattle.pl_used_files.proofs.Expanding.{part_agrees, expanded_agree, done_agree}
use Rattle.pl_used_files.proofs.Settling.{settling_agree}

-- ---- what paths lead to

abbrev found : FileKey → Parsed → Unit {0} → List FileKey → Used OpenedFile
found key file none used = Ok (record { key = key; file = file }, used)

module _ (files others : Set) (final : List FileKey) (agree : AgreeOn final files others) where
  abbrev U : List FileKey → Type 0
  U = AreUsed final

  found_by :
      (at : Place) (key : FileKey) (file : Parsed) (used : List FileKey) →
      finite.get files key ≡ Some file → (step : Used (Unit {0})) →
      called_then at key used ≡ step → Gives U (Unit {0}) used step (λ none. Contains final key) →
      Agree U used (step >>> found key file) (found_at at key (finite.get others key) used)
  found_by at key file used is (Ok both) called gives = λ ends. (
    gives.0 ends,
    ap (λ (there : Option Parsed). found_at at key there used) (agree key (gives.1 ends tt) ∙ is)
        ∙ ap (λ (step : Used (Unit {0})). step >>> found key file) called,
  )
  found_by at key file used is (Err fault) called gives = tt

  found_agree :
      (at : Place) (key : FileKey) (there : Option Parsed) (used : List FileKey) →
      finite.get files key ≡ there →
      Agree U used (found_at at key there used) (found_at at key (finite.get others key) used)
  found_agree at key None used is = tt
  found_agree at key (Some file) used is =
      found_by at key file used is (called_then at key used) refl (then_gives final at key used)

  opened_agree :
      (at : Place) (key : Option FileKey) (used : List FileKey) →
      Agree U used (opened_at files at key used) (opened_at others at key used)
  opened_agree at None used = tt
  opened_agree at (Some key) used = found_agree at key (finite.get files key) used refl

  pub opens_agree : (home : Home) → OpensAgree U (opens_of files home) (opens_of others home)
  opens_agree home at path used =
      same_then U used (target at (cut_path path) home) _ _ (λ key. opened_agree at key used)

-- ---- what stands at the root

module _ (U : List FileKey → Type 0) (one other : Opens) (opens : OpensAgree U one other)
    (frame : Frame) where
  -- a pair whose key is known

  key_agrees :
      (extends : Bool) (key : List ℕ) (origin : Origin) (node : Node) (filling : RootFilling)
      (used : List FileKey) →
      Agree U used (key_put extends key origin node one frame filling used)
      (key_put extends key origin node other frame filling used)
  key_agrees true key origin node filling used =
      both_then U used (extended one origin node frame filling.progress.count used)
      (extended other origin node frame filling.progress.count used) _ _
      (extended_agree U one other opens origin frame node filling.progress.count used)
      (λ extension later. done U later (extended_behind filling extension))
  key_agrees false key origin node filling used =
      both_then U used
      (done_for (Put key origin) (part_of node) (scope_of (followed 100 one) frame Free)
      filling.progress used)
      (done_for (Put key origin) (part_of node) (scope_of (followed 100 other) frame Free)
      filling.progress used)
      _ _
      (done_agree U (followed 100 one) (followed 100 other) (followed_agree U one other opens 100)
      (Put key origin) (part_of node) (part_agrees U node) frame Free filling.progress used)
      (λ after later. done U later (filled_with filling.extension after))

  named_agrees :
      (key : List ℕ) (origin : Origin) (node : Node) (filling : RootFilling)
      (used : List FileKey) →
      Agree U used (named_put key origin node one frame filling used)
      (named_put key origin node other frame filling used)
  named_agrees key origin node filling used =
      same_then U used (unless_misplaced (misplaced filling key) origin.source) _ _
      (λ none. key_agrees (is key (codes "extends")) key origin node filling used)

  -- pairs that an expression gave

  given_agrees :
      (extends : Bool) (pair : MarkedPair) (filling : RootFilling) (used : List FileKey) →
      Agree U used (given_by extends pair one frame filling used)
      (given_by extends pair other frame filling used)
  given_agrees true pair filling used =
      both_then U used
      (value_extended one pair.key_origin pair.item.origin.source pair.item frame
      filling.progress.count used)
      (value_extended other pair.key_origin pair.item.origin.source pair.item frame
      filling.progress.count used) _ _
      (value_extends_agree U one other opens pair.key_origin pair.item.origin.source pair.item
      frame filling.progress.count used)
      (λ extension later. done U later (extended_behind filling extension))
  given_agrees false pair filling used =
      both_then U used
      (node_settling pair.item (scope_of (followed 100 one) frame (inside_key pair.key Free))
      filling.progress.count used)
      (node_settling pair.item (scope_of (followed 100 other) frame (inside_key pair.key Free))
      filling.progress.count used) _ _
      (settling_agree U pair.item (followed 100 one) (followed 100 other) frame
      (inside_key pair.key Free) filling.progress.count used (followed_agree U one other opens 100))
      (λ x later. both_alone U later (item_put pair filling x))

  all_given_agree :
      (pairs : List MarkedPair) (filling : RootFilling) (used : List FileKey) →
      Agree U used (all_given_put pairs one frame filling used)
      (all_given_put pairs other frame filling used)
  all_given_agree [] filling used = done U used filling
  all_given_agree (pair ∷ pairs) filling used =
      both_then U used (given_put pair one frame filling used)
      (given_put pair other frame filling used)
      (all_given_put pairs one frame) (all_given_put pairs other frame)
      (same_then U used (unless_misplaced (misplaced filling pair.key) pair.key_origin.source) _ _
      (λ none. given_agrees (is pair.key (codes "extends")) pair filling used))
      (λ after later. all_given_agree pairs after later)

  value_agrees :
      (opened : Value-F Value MarkedNode MarkedPair) (problem : ExpandProblem) (place : Place)
      (filling : RootFilling) (used : List FileKey) →
      Agree U used (value_put opened problem place one frame filling used)
      (value_put opened problem place other frame filling used)
  value_agrees (layer.Object pairs) problem place filling used = all_given_agree pairs filling used
  value_agrees (layer.Array items) problem place filling used = tt
  value_agrees layer.Null problem place filling used = tt
  value_agrees (layer.Bool truth) problem place filling used = tt
  value_agrees (layer.Number number) problem place filling used = tt
  value_agrees (layer.Version segments) problem place filling used = tt
  value_agrees (layer.Str text) problem place filling used = tt

-- ---- a part of the root file, by induction

module _ (U : List FileKey → Type 0) (one other : Opens) (opens : OpensAgree U one other) where
  abbrev RootingAgree : Rooting → Type 0
  RootingAgree put =
      (frame : Frame) (filling : RootFilling) (used : List FileKey) →
      Agree U used (put one frame filling used) (put other frame filling used)

  abbrev PutAgree : (ExpandProblem → Place → Rooting) → Type 0
  PutAgree put = (problem : ExpandProblem) (place : Place) → RootingAgree (put problem place)

  abbrev BodyClaim : NodeBody → Type 0
  BodyClaim x = PutAgree (body_seen x).put

  abbrev NodeClaim : Node → Type 0
  NodeClaim x = (problem : ExpandProblem) → RootingAgree ((node_seen x).put problem)

  abbrev PairClaim : NodePair → Type 0
  PairClaim x = RootingAgree (pair_seen x).put

  pairs_puts :
      (pairs : List NodePair) → Each PairClaim pairs →
      RootingAgree (pairs_put (map pair_seen pairs))
  pairs_puts [] claims frame filling used = done U used filling
  pairs_puts (pair ∷ pairs) claims frame filling used =
      both_then U used ((pair_seen pair).put one frame filling used)
      ((pair_seen pair).put other frame filling used) (pairs_put (map pair_seen pairs) one frame)
      (pairs_put (map pair_seen pairs) other frame) (claims.0 frame filling used)
      (λ after later. pairs_puts pairs claims.1 frame after later)

  of_layer :
      (layer : Body) → BodyParts NodeClaim PairClaim layer → BodyClaim (roll-NodeBody layer)
  of_layer (Scalar text) claims =
      let seen : text_put text ≡ (body_seen (roll-NodeBody (Scalar text))).put =
      search (rules, the_lemmas) in
      subst PutAgree seen
      (λ problem place frame filling used.
      same_then U used (scalar_value text frame place filling.progress.count) _ _
      (λ x. value_agrees U one other opens frame (out-Value x.node.value) problem place
      (counting x.count filling) used))
  of_layer (Seq items) claims =
      let seen : list_put ≡ (body_seen (roll-NodeBody (Seq items))).put =
      search (rules, the_lemmas) in
      subst PutAgree seen
      (λ problem place frame filling used.
      same_then U used (entered place filling.progress.count) _ _ (λ count. tt))
  of_layer (Map pairs) claims =
      let seen : mapping_put (map pair_seen pairs) ≡ (body_seen (roll-NodeBody (Map pairs))).put =
      search (rules, the_lemmas) in
      subst PutAgree seen
      (λ problem place frame filling used.
      same_then U used (entered place filling.progress.count) _ _
      (λ count. pairs_puts pairs claims frame (counting count filling) used))

  of_node :
      (place : Place) (body : NodeBody) → BodyClaim body →
      NodeClaim (record { place = place; body = body })
  of_node place body claim problem =
      let node : Node = record { place = place; body = body } in
      let seen : node_put place (body_seen body) ≡ (node_seen node).put =
      search (rules, the_lemmas) in
      subst (λ (put : ExpandProblem → Rooting). RootingAgree (put problem)) seen
      (λ frame filling used. both_then U used
      ((body_seen body).put problem place one frame (chained Closed filling) used)
      ((body_seen body).put problem place other frame (chained Closed filling) used) _ _
      (claim problem place frame (chained Closed filling) used)
      (λ after later. done U later (chained Closed after)))

  module _ (item : Node) (claim : NodeClaim item) where
    turns_agree_root :
        (name : List ℕ) (items : List MarkedNode) →
        RootingAgree (turns_put name (node_seen item) items)
    turns_agree_root name [] frame filling used = done U used filling
    turns_agree_root name (first ∷ items) frame filling used =
        both_then U used
        ((node_seen item).put WrongKind one (turn_frame frame name first) filling used)
        ((node_seen item).put WrongKind other (turn_frame frame name first) filling used)
        (turns_put name (node_seen item) items one frame)
        (turns_put name (node_seen item) items other frame)
        (claim WrongKind (turn_frame frame name first) filling used)
        (λ after later. turns_agree_root name items frame after later)

    asked_agree : (asked : Action) → RootingAgree (asked_put asked (node_seen item))
    asked_agree (Put key origin) frame filling used =
        subst (λ (node : Node). Agree U used (named_put key origin node one frame filling used)
        (named_put key origin node other frame filling used))
        (sym (node_itself item))
        (named_agrees U one other opens frame key origin item filling used)
    asked_agree (Run chain) frame filling used =
        both_then U used ((node_seen item).put WrongKind one frame filling used)
        ((node_seen item).put WrongKind other frame filling used) _ _
        (claim WrongKind frame filling used) (λ after later. done U later (chained chain after))
    asked_agree (Pass chain) frame filling used = done U used (chained chain filling)
    asked_agree (Repeat loop count) frame filling used =
        turns_agree_root loop.name loop.items frame (chained Closed (counting count filling)) used
    asked_agree Insert frame filling used = claim InsertNoMapping frame filling used

  of_pair :
      (key : List ℕ) (key_place : Place) (item : Node) → NodeClaim item →
      PairClaim (record { key = key; key_place = key_place; item = item })
  of_pair key key_place item claim =
      let pair : NodePair = record { key = key; key_place = key_place; item = item } in
      let seen : pair_put key key_place (node_seen item) ≡ (pair_seen pair).put =
      search (rules, the_lemmas) in
      subst RootingAgree seen
      (λ frame filling used. same_then U used
      (key_asks key frame key_place filling.progress.chain filling.progress.count) _ _
      (λ asked. asked_agree item claim asked frame filling used))

  node_puts : (node : Node) → NodeClaim node
  node_puts = written_induction BodyClaim NodeClaim PairClaim of_layer of_node of_pair

  pub pair_puts : (pair : NodePair) → PairClaim pair
  pair_puts pair = of_pair pair.key pair.key_place pair.item (node_puts pair.item)

-- ---- the root's pairs

module _ (U : List FileKey → Type 0) (one other : Opens) (opens : OpensAgree U one other)
    (frame : Frame) where
  pair_agree_root :
      (of : RootKey) (early : Option MarkedNode) (pair : NodePair) (filling : RootFilling)
      (used : List FileKey) →
      Agree U used (root_pair of early pair one frame filling used)
      (root_pair of early pair other frame filling used)
  pair_agree_root key.Parameters early pair filling used = done U used (passed_over filling)
  pair_agree_root key.Resources early pair filling used = done U used (passed_over filling)
  pair_agree_root key.Extends early pair filling used =
      pair_puts U one other opens pair frame filling used
  pair_agree_root key.Variables (Some node) pair filling used =
      both_alone U used (variables_pair node pair frame filling)
  pair_agree_root key.Variables None pair filling used =
      pair_puts U one other opens pair frame filling used
  pair_agree_root key.Other early pair filling used =
      pair_puts U one other opens pair frame filling used

  pairs_agree_root :
      (early : Option MarkedNode) (pairs : List NodePair) (filling : RootFilling)
      (used : List FileKey) →
      Agree U used (root_pairs early pairs one frame filling used)
      (root_pairs early pairs other frame filling used)
  pairs_agree_root early [] filling used = done U used filling
  pairs_agree_root early (pair ∷ pairs) filling used =
      let of = root_key pair.key in
      both_then U used (root_pair of (given_to of early) pair one frame filling used)
      (root_pair of (given_to of early) pair other frame filling used)
      (root_pairs (early_behind of early) pairs one frame)
      (root_pairs (early_behind of early) pairs other frame)
      (pair_agree_root of (given_to of early) pair filling used)
      (λ after later. pairs_agree_root (early_behind of early) pairs after later)

  early_agree :
      (node : Option Node) (count : ℕ) (used : List FileKey) →
      Agree U used (early_by node (followed 100 one) frame count used)
      (early_by node (followed 100 other) frame count used)
  early_agree None count used = done U used (record { node = None; count = count })
  early_agree (Some node) count used =
      both_then U used (expanded node (scope_of (followed 100 one) frame (Calls InVariables)) count
      used)
      (expanded node (scope_of (followed 100 other) frame (Calls InVariables)) count used) _ _
      (expanded_agree U node (followed 100 one) (followed 100 other) frame (Calls InVariables)
      count used (followed_agree U one other opens 100))
      (λ x later. done U later (record { node = Some x.node; count = x.count }))

module _ (U : List FileKey → Type 0) (one other : Opens) (opens : OpensAgree U one other) where
  filled_agree :
      (root : FileKey) (place : Place) (pairs : List NodePair) (parameters : List Parameter)
      (early : Early) (used : List FileKey) →
      Agree U used (filled_root (root_mapping root place pairs parameters) one early used)
      (filled_root (root_mapping root place pairs parameters) other early used)
  filled_agree root place pairs parameters early used =
      let frame = second_frame root parameters early.node in
      let start = filled_with None (begun content.Pairs Closed early.count) in
      both_then U used (root_pairs early.node pairs one frame start used)
      (root_pairs early.node pairs other frame start used) _ _
      (pairs_agree_root U one other opens frame early.node pairs start used)
      (λ filling later. both_alone U later (root_from (literal_at frame place) filling))

  pub pairs_expanded_agree :
      (root : FileKey) (place : Place) (pairs : List NodePair) (parameters : List Parameter) →
      Agree U [] (pairs_expanded (root_mapping root place pairs parameters) one)
      (pairs_expanded (root_mapping root place pairs parameters) other)
  pairs_expanded_agree root place pairs parameters =
      same_then U [] (entered place 0) _ _
      (λ count. both_then U []
      (early_by (under (codes "variables") pairs) (followed 100 one)
      (first_frame root parameters) count [])
      (early_by (under (codes "variables") pairs) (followed 100 other)
      (first_frame root parameters) count [])
      (filled_root (root_mapping root place pairs parameters) one)
      (filled_root (root_mapping root place pairs parameters) other)
      (early_agree U one other opens (first_frame root parameters)
      (under (codes "variables") pairs) count [])
      (λ early later. filled_agree root place pairs parameters early later))

-- ---- the whole

abbrev told :
    {A : Type 0} → (A → List FileKey → RootTree) → A → List FileKey → Result RootTree ExpandFault
told next x used = Ok (next x used)

module _ (files others : Set) (root : FileKey) (arguments : List RunArgument) where
  abbrev Ends : Result RootTree ExpandFault → Result RootTree ExpandFault → Type 0
  Ends one other =
      IfOk one
      (λ whole. Contains whole.expanded.used root
      × (AgreeOn whole.expanded.used files others → other ≡ Ok whole))

  same_ends :
      {A : Type 0} (step : Result A ExpandFault) (next more : A → Result RootTree ExpandFault) →
      ((x : A) → Ends (next x) (more x)) → Ends (step >>= next) (step >>= more)
  same_ends (Ok x) next more agree = agree x
  same_ends (Err fault) next more agree = tt

  both_ends :
      {A : Type 0} (one other : Used A) (next : A → List FileKey → RootTree) →
      ((x : A) (used : List FileKey) → (next x used).expanded.used ≡ used_files root used) →
      ((final : List FileKey) → AgreeOn final files others →
      Agree (AreUsed final) [] one other) →
      Ends (one >>> told next) (other >>> told next)
  both_ends {A} (Ok both) other next tells agrees = (
    subst (λ (used : List FileKey). Contains used root) (sym (tells both.0 both.1))
        (first_in root (filter (λ key. not (same_file key root)) both.1)),
    λ agree.
        let final = used_files root both.1 in
        let here : AgreeOn final files others =
        subst (λ (used : List FileKey). AgreeOn used files others) (tells both.0 both.1) agree in
        let same = agrees final here (all_used root both.1) in
        ap (λ (step : Used A). step >>> told next) same.1,
  )
  both_ends {A} (Err fault) other next tells agrees = tt

  mapping_ends :
      (place : Place) (pairs : List NodePair) →
      Ends (mapping_expanded files root place pairs arguments)
      (mapping_expanded others root place pairs arguments)
  mapping_ends place pairs =
      same_ends (unless (earliest (root_complaints pairs)) pairs) _ _
      (λ pairs. same_ends (parameters_by (under (codes "parameters") pairs) arguments) _ _
      (λ parameters. both_ends
      (pairs_expanded (root_mapping root place pairs parameters)
      (opens_of files (home_of root pairs)))
      (pairs_expanded (root_mapping root place pairs parameters)
      (opens_of others (home_of root pairs)))
      (whole (home_of root pairs)) (λ x used. refl)
      (λ final agree. pairs_expanded_agree (AreUsed final)
      (opens_of files (home_of root pairs)) (opens_of others (home_of root pairs))
      (opens_agree files others final agree (home_of root pairs)) root place pairs parameters)))

  bare_ends :
      (node : Node) (frame : Frame) →
      Ends (bare_expanded files root node frame) (bare_expanded others root node frame)
  bare_ends node frame =
      both_ends
      (expanded node (scope_of (followed 100 (opens_of files (bare_home root))) frame Free) 0 [])
      (expanded node (scope_of (followed 100 (opens_of others (bare_home root))) frame Free) 0 [])
      (λ x used. whole (bare_home root)
      (record { node = x.node; extends = None; count = x.count }) used)
      (λ x used. refl)
      (λ final agree. expanded_agree (AreUsed final) node
      (followed 100 (opens_of files (bare_home root)))
      (followed 100 (opens_of others (bare_home root))) frame Free 0 []
      (followed_agree (AreUsed final) (opens_of files (bare_home root))
      (opens_of others (bare_home root)) (opens_agree files others final agree (bare_home root))
      100))

  other_ends :
      (node : Node) →
      Ends (other_expanded files root node arguments) (other_expanded others root node arguments)
  other_ends node =
      same_ends (parameters_by None arguments) _ _
      (λ parameters. bare_ends node (first_frame root parameters))

  body_ends :
      (body : Body) (node : Node) →
      Ends (body_expanded_by body files root node arguments)
      (body_expanded_by body others root node arguments)
  body_ends (Map pairs) node = mapping_ends node.place pairs
  body_ends (Scalar text) node = other_ends node
  body_ends (Seq items) node = other_ends node

  -- from the root's file, as it is in the first set
  tree_ends :
      Ends (tree_of files root arguments)
      (root_node root (finite.get files root) >>= λ node. body_expanded others root node arguments)
  tree_ends =
      same_ends (root_node root (finite.get files root)) _ _
      (λ node. body_ends (body_of node) node)

  at_ok :
      (one other : Result RootTree ExpandFault) (whole : RootTree) → Ends one other →
      one ≡ Ok whole →
      Contains whole.expanded.used root
      × (AgreeOn whole.expanded.used files others → other ≡ Ok whole)
  at_ok one other whole ends is = subst (λ (step : Result _ _). Ends step other) is ends

pub decide : UsedFilesDecide
decide files others root arguments whole is agree =
    let ends = at_ok files others root arguments (tree_of files root arguments) _ whole
    (tree_ends files others root arguments) is in
    ap (λ (file : Option Parsed).
    root_node root file >>= λ node. body_expanded others root node arguments)
    (agree root ends.0)
    ∙ ends.1 agree
