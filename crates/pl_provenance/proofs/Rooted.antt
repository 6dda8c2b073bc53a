-- The pairs of a root file, and the tree of the whole.
use Rattle.std.proofs.Common.{◌≡◌, ℕ, Bool, true, false, cond, Option, Some, None, Result, Ok, Err}
use Rattle.std.proofs.Common.{List, [], ◌∷◌, ◌++◌, map, refl, sym, subst, rules}
use Rattle.std.specs.Prelude.{IfOk, codes}
use Rattle.std.specs.List.{AllByRecursion as Each}
use Rattle.pl_base.specs.Places.{place_at}
use Rattle.pl_base.specs.declared.expanded.Argument.{Argument as RunArgument}
use Rattle.pl_base.specs.declared.origin.Crossing.{Crossing}
use Rattle.pl_base.specs.declared.origin.Crossing.TheVariants.{Argument, Made}
use Rattle.pl_base.specs.declared.origin.Origin.{Origin}
use Rattle.pl_base.specs.declared.place.FileKey.{FileKey}
use Rattle.pl_base.specs.declared.place.Place.{Place}
use Rattle.pl_base.specs.declared.node.Node.{Node}
use Rattle.pl_base.specs.declared.node.NodeBody.{NodeBody, out-NodeBody, roll-NodeBody, the_lemmas}
use Rattle.pl_base.specs.declared.node.NodeBody.TheOpen.{Scalar, Seq, Map}
use Rattle.pl_base.specs.declared.node.NodePair.{NodePair}
use Rattle.pl_base.specs.declared.value.Value.{Str, out-Value}
use Rattle.pl_base.specs.declared.value.Value.TheOpen as layer
use Rattle.pl_base.specs.declared.value.MarkedNode.{MarkedNode}
use Rattle.pl_base.specs.declared.value.MarkedPair.{MarkedPair}
use Rattle.pl_frame.specs.declared.frame.Frame.{Frame}
use Rattle.pl_frame.specs.declared.frame.Parameter.{Parameter}
use Rattle.pl_frame.specs.declared.frame.Variable.{Variable}
use Rattle.pl_frame.specs.Names.{within as turn_frame}
use Rattle.pl_frame.specs.Origins.{literal_at}
use Rattle.pl_line.specs.declared.code.YamlCode.{YamlCode}
use Rattle.pl_base.specs.Texts.{is}
use Rattle.pl_literal.specs.Literal.{literal, origin_at}
use Rattle.pl_params.specs.declared.given.Given.{Given}
use Rattle.pl_params.specs.declared.kind.ParamKind.{ParamKind}
use Rattle.pl_params.specs.declared.param.Param.{Param}
use Rattle.pl_yaml.specs.Spells as yaml
use Rattle.pl_directives.specs.declared.action.Action.{Action}
use Rattle.pl_directives.specs.declared.action.Action.TheVariants.{Put, Run, Pass, Repeat, Insert}
use Rattle.pl_directives.specs.declared.fault.ExpandProblem.{ExpandProblem}
use Rattle.pl_directives.specs.declared.fault.ExpandProblem.TheVariants.{WrongKind, InsertNoMapping}
use Rattle.pl_directives.specs.declared.manner.Kind.TheVariants as content
use Rattle.pl_directives.specs.declared.progress.Chain.TheVariants.{Closed}
use Rattle.pl_directives.specs.declared.progress.Counted.{Counted}
use Rattle.pl_directives.specs.declared.progress.Progress.{Progress}
use Rattle.pl_directives.specs.declared.region.Form.TheVariants.{Variables as InVariables}
use Rattle.pl_directives.specs.declared.region.Region.TheVariants.{Free, Calls}
use Rattle.pl_directives.specs.Actions.{key_asks}
use Rattle.pl_directives.specs.Contents.{begun, put_pair}
use Rattle.pl_directives.specs.Counting.{entered}
use Rattle.pl_directives.specs.Regions.{under as inside_key}
use Rattle.pl_directives.specs.Scalars.{scalar_value}
use Rattle.pl_calls.specs.Parameters.{declared_by}
use Rattle.pl_calls.specs.Parts.{Body}
use Rattle.pl_params.specs.Nodes.{under}
use Rattle.pl_calls.specs.Reaching.{Opens}
use Rattle.pl_origins.specs.Below.pl_recursion.specs.Expanding.{expanded, part_of, done}
use Rattle.pl_origins.specs.Below.pl_recursion.specs.Following.{scope_of}
use Rattle.pl_origins.specs.Below.pl_recursion.specs.Levels.{followed}
use Rattle.pl_origins.specs.Below.pl_recursion.specs.Settling.{node_settling}
use Rattle.pl_eval_laws.proofs.Leads.{Opened}
use Rattle.pl_eval_laws.specs.Marks.{key as key_said, scalar}
use Rattle.pl_eval_laws.proofs.Lists.{Has, each_append}
use Rattle.pl_eval_laws.proofs.Trees.{Asked as Wanted, Told, pair_told}
use Rattle.pl_eval_laws.proofs.Trees.{NodeFrom, PairFrom, OpenedFrom, pair_from, text_node}
use Rattle.pl_eval_laws.proofs.Trees.{node_implies, node_parts, pair_parts, value_parts}
use Rattle.pl_origins.proofs.Bound.{ParamIn, AreBound, Takeable, declared_in, bound_to_from}
use Rattle.pl_origins.proofs.Bound.{parameters_from, literal_from, Stands}
use Rattle.pl_origins.proofs.Called.{Borders, OpensFrom}
use Rattle.pl_origins.proofs.Contents.{ProgressFrom, put_pair_from}
use Rattle.pl_origins.proofs.Expanded.{part_from, expanded_gives, done_gives_all, settled_gives}
use Rattle.pl_origins.proofs.Following.{FollowFrom}
use Rattle.pl_origins.proofs.Frames.{Seen, SeenFrom, Reads, FrameFrom, ParameterFrom, turn_from}
use Rattle.pl_origins.proofs.Induction.{BodyParts, written_induction}
use Rattle.pl_origins.proofs.Nodes.{Site, site, NodeIn, PairIn, BodyIn, node_in, node_says}
use Rattle.pl_origins.proofs.Nodes.{pair_in, pair_says, said_in, under_in, Stood}
use Rattle.pl_origins.proofs.Scalars.{HeldFrom, OneFrom, SeenOne, ActionFrom, key_asks_from}
use Rattle.pl_origins.proofs.Scalars.{scalar_value_from, seen_tree}
use Rattle.pl_origins.proofs.Steps.{Gives, ok_then, any_then, plain_then, first_then}
use Rattle.pl_origins.proofs.Steps.{used_then, alone_gives, done_gives, given}
use Rattle.pl_expand.specs.Below.pl_extends.specs.declared.extending.Extension.{Extension}
use Rattle.pl_expand.specs.declared.filling.Early.{Early}
use Rattle.pl_expand.specs.Below.pl_extends.specs.declared.rooting.RootFilling.{RootFilling}
use Rattle.pl_expand.specs.declared.root.RootNode.{RootNode}
use Rattle.pl_expand.specs.Below.pl_root.specs.declared.root_key.RootKey.{RootKey}
use Rattle.pl_expand.specs.Below.pl_root.specs.declared.root_key.RootKey.TheVariants as key
use Rattle.pl_expand.specs.Below.pl_extends.specs.Extending.{extended, value_extended}
use Rattle.pl_expand.specs.Below.pl_extends.specs.Rooting.{Rooting, filled_with, chained, counting, misplaced}
use Rattle.pl_expand.specs.Below.pl_extends.specs.Rooting.{unless_misplaced, extended_behind, key_put, named_put}
use Rattle.pl_expand.specs.Below.pl_extends.specs.Rooting.{item_put, given_by, given_put, all_given_put}
use Rattle.pl_origins.specs.Below.pl_recursion.specs.Settling.{with_item}
use Rattle.pl_expand.specs.Below.pl_extends.specs.Rooting.{value_put, text_put, list_put, pairs_put, mapping_put}
use Rattle.pl_expand.specs.Below.pl_extends.specs.Rooting.{node_put, turns_put, asked_put, pair_put, node_seen}
use Rattle.pl_expand.specs.Below.pl_extends.specs.Rooting.{body_seen, pair_seen}
use Rattle.pl_expand.specs.Below.pl_extends.proofs.Itself.{node_itself}
use Rattle.pl_expand.specs.Below.pl_root.specs.Arguments.{argument_file, whole_text, read_told, is_text}
use Rattle.pl_expand.specs.Below.pl_root.specs.Arguments.{argument_value, kind_for, argument_given, arguments_given}
use Rattle.pl_expand.specs.Below.pl_root.specs.Arguments.{bound_by}
use Rattle.pl_expand.specs.Below.pl_root.specs.Arguments.{parameters_by}
use Rattle.pl_expand.specs.Below.pl_root.specs.Frames.{root_frame, first_frame}
use Rattle.pl_expand.specs.Tree.{early_by}
use Rattle.pl_expand.specs.Below.pl_root.specs.Keys.{root_key}
use Rattle.pl_expand.specs.Tree.{put_variables}
use Rattle.pl_expand.specs.Tree.{passed_over, variables_pair, root_pair, given_to, early_behind}
use Rattle.pl_expand.specs.Tree.{root_pairs, root_object, root_from}
use Rattle.pl_expand.specs.Below.pl_root.specs.Frames.{second_frame}
use Rattle.pl_expand.specs.Tree.{root_mapping, filled_root, pairs_expanded}
use Rattle.pl_provenance.specs.Roots.{jobs_of}
use Rattle.pl_provenance.proofs.Extended.{ExtendsBorder, ExtensionFrom, extended_gives}
use Rattle.pl_provenance.proofs.Extended.{levels_follow, value_extends}
use Rattle.pl_provenance.proofs.Joined.{tree_from}

-- What must be so in the root's own frame. A holds of the places of a run argument.
pub record RootBorder (P : Wanted) (R : Site) (A : RunArgument → Place → Type 0) : Type 0 where
  pub literal : (place : Place) → R.at place → P.own (record { source = place; crossings = [] })
  pub made :
      (place : Place) → R.at place → P.own (record { source = place; crossings = Made ∷ [] })
  pub argument :
      (argument : RunArgument) (source : Place) → A argument source → (parameter : List ℕ)
      (place : Place) → R.at place →
      (Seen P R).own (record { source = source; crossings = Argument parameter place ∷ [] })
  pub reads : Reads R P

-- the places of a run argument: the whole text's, and those of what it spells
abbrev pub ArgumentIn : (RunArgument → Place → Type 0) → RunArgument → Type 0
ArgumentIn A argument =
    A argument (place_at (argument_file argument.name) 1 1)
    × IfOk (yaml.spells (argument_file argument.name) argument.text) (NodeIn (site (A argument)))

-- ---- the root's parameters

module _ (P : Wanted) (R : Site) (A : RunArgument → Place → Type 0)
    (border : RootBorder P R A) where
  abbrev G : Wanted
  G = Takeable (Seen P R) R

  abbrev M : Wanted
  M = Takeable P R

  takes_argument :
      (argument : RunArgument) (origin : Origin) → A argument origin.source →
      origin.crossings ≡ [] → G.own origin
  takes_argument argument origin stands none parameter place here =
      subst (λ (crossings : List Crossing). (Seen P R).own (record {
        source = origin.source;
        crossings = crossings ++ Argument parameter place ∷ [];
      })) (sym none) (border.argument argument origin.source stands parameter place here)

  whole_from : (argument : RunArgument) → ArgumentIn A argument → NodeFrom G M (whole_text argument)
  whole_from argument within =
      text_node G M (origin_at [] (place_at (argument_file argument.name) 1 1))
      (takes_argument argument _ within.0 refl) argument.text (λ files. tt)

  written_from : (argument : RunArgument) (node : Node) → NodeIn (site (A argument)) node →
      NodeFrom G M (literal [] node)
  written_from argument node within =
      node_implies (Stands (site (A argument)) []) G (Stands (site (A argument)) []) M
      (λ origin stands. takes_argument argument origin stands.0 stands.1)
      (λ origin stands parameter place here.
      (takes_argument argument origin stands.0 stands.1 parameter place here).0)
      (λ item path one calls files. tt) (λ origin said told files. tt) (literal [] node)
      (literal_from (site (A argument)) [] node within)

  read_from :
      (argument : RunArgument) (told : Result Node (YamlCode × Place)) →
      IfOk told (NodeIn (site (A argument))) → IfOk (read_told told) (NodeFrom G M)
  read_from argument (Ok node) within = written_from argument node within
  read_from argument (Err told) within = tt

  value_by : (argument : RunArgument) → ArgumentIn A argument → (b : Bool) →
      IfOk (cond b (Ok (whole_text argument))
      (read_told (yaml.spells (argument_file argument.name) argument.text))) (NodeFrom G M)
  value_by argument within true = whole_from argument within
  value_by argument within false =
      read_from argument (yaml.spells (argument_file argument.name) argument.text) within.1

  value_given : (of : Option ParamKind) (argument : RunArgument) → ArgumentIn A argument →
      IfOk (argument_value of argument) (NodeFrom G M)
  value_given None argument within = whole_from argument within
  value_given (Some of) argument within = value_by argument within (is_text of)

  abbrev GivenFrom : Given → Type 0
  GivenFrom one = NodeFrom G M one.value

  one_given : (declared : List Param) (argument : RunArgument) → ArgumentIn A argument →
      IfOk (argument_given declared argument) GivenFrom
  one_given declared argument within =
      ok_then (NodeFrom G M) GivenFrom
      (argument_value (kind_for declared argument.name) argument) _
      (value_given (kind_for declared argument.name) argument within) (λ one all. all)

  all_given :
      (declared : List Param) (arguments : List RunArgument) (before : List Given) →
      Each (ArgumentIn A) arguments → Each GivenFrom before →
      IfOk (arguments_given declared arguments before) (Each GivenFrom)
  all_given declared [] before within all = all
  all_given declared (argument ∷ arguments) before within all =
      ok_then GivenFrom (Each GivenFrom) (argument_given declared argument) _
      (one_given declared argument within.0)
      (λ one is. all_given declared arguments (before ++ one ∷ []) within.1
      (each_append GivenFrom before (one ∷ []) all (is, tt)))

  bound_from : (declared : List Param) (arguments : List RunArgument) →
      Each (ArgumentIn A) arguments → Each (ParamIn R) declared →
      IfOk (bound_by declared arguments) (AreBound P R border.reads declared)
  bound_from declared arguments given_in within =
      ok_then (Each GivenFrom) (AreBound P R border.reads declared) (arguments_given declared
      arguments
      []) _
      (all_given declared arguments [] given_in tt)
      (λ given all. bound_to_from P R border.reads declared given within all)

  pub parameters_are :
      (node : Option Node) (arguments : List RunArgument) → Each (ArgumentIn A) arguments →
      Has (NodeIn R) node → IfOk (parameters_by node arguments) (Each (ParameterFrom P R))
  parameters_are node arguments given_in within =
      ok_then (Each (ParamIn R)) (Each (ParameterFrom P R)) (declared_by node) _
      (declared_in R node within)
      (λ declared stands. ok_then (AreBound P R border.reads declared) (Each (ParameterFrom P R))
      (bound_by declared arguments) _ (bound_from declared arguments given_in stands)
      (λ bound are. parameters_from P R border.reads [] border.literal declared bound stands are))

  pub root_frame_from :
      (root : FileKey) (parameters : List Parameter) (variables : List Variable) →
      Each (ParameterFrom P R) parameters → FrameFrom P R (root_frame root parameters variables)
  root_frame_from root parameters variables are = record {
    literal = border.literal;
    made = border.made;
    reads = border.reads;
    parameters = are;
    loops = tt;
  }

-- ---- the root's pairs

module _ (P : Wanted) (T : FileKey → Wanted) (R : FileKey → Site)
    (K : Place → List ℕ → FileKey → Type 0) (U : List FileKey → Type 0) (border : ExtendsBorder P T
    R K)
    (inside : (file : FileKey) → Borders (T file) R K) (outside : Borders P R K) (opens : Opens)
    (opening : OpensFrom R K U opens) (root : FileKey) where
  abbrev pub FillingFrom : RootFilling → Type 0
  FillingFrom filling =
      ProgressFrom P (R root) filling.progress × Has (ExtensionFrom T) filling.extension

  follows : (levels : ℕ) → FollowFrom P U (followed levels opens)
  follows levels = levels_follow P T R K U border inside outside opens opening levels

  -- ---- a pair whose key is known

  key_gives :
      (extends : Bool) (key : List ℕ) (origin : Origin) (node : Node) (H : Type 0) (frame : Frame)
      (filling : RootFilling) (used : List FileKey) → NodeIn (R root) node →
      (H → ActionFrom P (R root) (Put key origin)) → (H → FrameFrom P (R root) frame) →
      (H → FillingFrom filling) →
      Gives U H used (key_put extends key origin node opens frame filling used) FillingFrom
  key_gives true key origin node H frame filling used within own from all =
      used_then U (ExtensionFrom T) FillingFrom H used
      (extended opens origin node frame filling.progress.count used) _
      (extended_gives P T R K U border inside outside opens opening root origin H frame from
      (λ h. (own h).0.0) node filling.progress.count used within)
      (λ extension later. done_gives U FillingFrom (H × ExtensionFrom T extension) later
      (extended_behind filling extension) (λ h. ((all h.0).0, h.1)))
  key_gives false key origin node H frame filling used within own from all =
      used_then U (ProgressFrom P (R root)) FillingFrom H used
      (done (Put key origin) (part_of node) (scope_of (followed 100 opens) frame Free)
      filling.progress used)
      _ (done_gives_all P (R root) U (followed 100 opens) (follows 100) (Put key origin)
      (part_of node) (part_from P (R root) U node within) H frame Free filling.progress used own
      from (λ h. (all h).0))
      (λ after later. done_gives U FillingFrom (H × ProgressFrom P (R root) after) later
      (filled_with filling.extension after) (λ h. (h.1, (all h.0).1)))

  named_gives :
      (key : List ℕ) (origin : Origin) (node : Node) (H : Type 0) (frame : Frame)
      (filling : RootFilling) (used : List FileKey) → NodeIn (R root) node →
      (H → ActionFrom P (R root) (Put key origin)) → (H → FrameFrom P (R root) frame) →
      (H → FillingFrom filling) →
      Gives U H used (named_put key origin node opens frame filling used) FillingFrom
  named_gives key origin node H frame filling used within own from all =
      plain_then U FillingFrom H used
      (unless_misplaced (misplaced filling key) origin.source) _
      (λ none. key_gives (is key (codes "extends")) key origin node H frame filling used within
      own from all)

  -- ---- pairs that an expression gave

  abbrev GivenSeen : MarkedPair → Type 0
  GivenSeen pair =
      ((Seen P (R root)).own pair.key_origin × Told P pair.key_origin (key_said pair.key))
      × SeenFrom P (R root) pair.item

  given_gives :
      (extends : Bool) (pair : MarkedPair) (H : Type 0) (frame : Frame) (filling : RootFilling)
      (used : List FileKey) → (H → GivenSeen pair) → (H → FrameFrom P (R root) frame) →
      (H → FillingFrom filling) →
      Gives U H used (given_by extends pair opens frame filling used) FillingFrom
  given_gives true pair H frame filling used seen from all =
      used_then U (ExtensionFrom T) FillingFrom H used
      (value_extended opens pair.key_origin pair.item.origin.source pair.item frame
      filling.progress.count used) _
      (value_extends P T R K U border inside outside opens opening pair.key_origin
      pair.item.origin.source pair.item H frame filling.progress.count used
      (λ h. (seen h).0.0.0) (λ h. seen_tree P (R root) pair.item (seen h).1))
      (λ extension later. done_gives U FillingFrom (H × ExtensionFrom T extension) later
      (extended_behind filling extension) (λ h. ((all h.0).0, h.1)))
  given_gives false pair H frame filling used seen from all =
      let at = filling.progress.count in
      let one : Counted = record { node = pair.item; count = at } in
      used_then U (OneFrom P (R root)) FillingFrom H used
      (node_settling pair.item (scope_of (followed 100 opens) frame (inside_key pair.key Free)) at
      used) _
      (settled_gives P (R root) U (followed 100 opens) (follows 100) one H frame
      (inside_key pair.key Free) used (λ h. (seen h).1))
      (λ one later. alone_gives U FillingFrom (H × OneFrom P (R root) one) later
      (item_put pair filling one)
      (λ h. ok_then (ProgressFrom P (R root)) FillingFrom
      (put_pair (with_item pair one.node) one.count filling.progress) _
      (put_pair_from P (R root) (with_item pair one.node) one.count filling.progress
      (pair_from P P pair.key pair.key_origin one.node (seen h.0).0.0.0 (seen h.0).0.1 h.1.0)
      h.1.1.0 (all h.0).0)
      (λ after is_from. (is_from, (all h.0).1))))

  all_given_gives :
      (pairs : List MarkedPair) (H : Type 0) (frame : Frame) (filling : RootFilling)
      (used : List FileKey) → (H → Each GivenSeen pairs) → (H → FrameFrom P (R root) frame) →
      (H → FillingFrom filling) →
      Gives U H used (all_given_put pairs opens frame filling used) FillingFrom
  all_given_gives [] H frame filling used seen from all =
      done_gives U FillingFrom H used filling all
  all_given_gives (pair ∷ pairs) H frame filling used seen from all =
      used_then U FillingFrom FillingFrom H used (given_put pair opens frame filling used)
      (all_given_put pairs opens frame)
      (plain_then U FillingFrom H used
      (unless_misplaced (misplaced filling pair.key) pair.key_origin.source) _
      (λ none. given_gives (is pair.key (codes "extends")) pair H frame filling used
      (λ h. (seen h).0) from all))
      (λ after later. all_given_gives pairs (H × FillingFrom after) frame after later
      (λ h. (seen h.0).1) (λ h. from h.0) (λ h. h.1))

  each_seen :
      (pairs : List MarkedPair) → Each (PairFrom (Seen P (R root)) P) pairs →
      Each GivenSeen pairs
  each_seen [] all = tt
  each_seen (pair ∷ pairs) all =
      let parts = pair_parts (Seen P (R root)) P pair all.0 in
      (((parts.0, pair_told (Seen P (R root)) P pair all.0), parts.1), each_seen pairs all.1)

  value_puts :
      (opened : Opened) (problem : ExpandProblem) (place : Place) (H : Type 0) (frame : Frame)
      (filling : RootFilling) (used : List FileKey) →
      (H → OpenedFrom (Seen P (R root)) P opened) → (H → FrameFrom P (R root) frame) →
      (H → FillingFrom filling) →
      Gives U H used (value_put opened problem place opens frame filling used) FillingFrom
  value_puts (layer.Object pairs) problem place H frame filling used seen from all =
      all_given_gives pairs H frame filling used (λ h. each_seen pairs (seen h)) from all
  value_puts (layer.Array items) problem place H frame filling used seen from all = tt
  value_puts layer.Null problem place H frame filling used seen from all = tt
  value_puts (layer.Bool truth) problem place H frame filling used seen from all = tt
  value_puts (layer.Number number) problem place H frame filling used seen from all = tt
  value_puts (layer.Version segments) problem place H frame filling used seen from all = tt
  value_puts (layer.Str text) problem place H frame filling used seen from all = tt

  text_puts :
      (text : List ℕ) (problem : ExpandProblem) (place : Place) (H : Type 0) (frame : Frame)
      (filling : RootFilling) (used : List FileKey) → (R root).at place →
      (R root).says place (scalar (Str text)) →
      (H → FrameFrom P (R root) frame) → (H → FillingFrom filling) →
      Gives U H used (text_put text problem place opens frame filling used) FillingFrom
  text_puts text problem place H frame filling used here says from all =
      first_then U (SeenOne P (R root)) FillingFrom H used
      (scalar_value text frame place filling.progress.count) _
      (λ h. scalar_value_from P (R root) frame (from h) place here text says
      filling.progress.count)
      (λ one. value_puts (out-Value one.node.value) problem place
      (H × SeenOne P (R root) one) frame (counting one.count filling) used
      (λ h. value_parts (Seen P (R root)) P one.node.value
      (node_parts (Seen P (R root)) P one.node h.1).1)
      (λ h. from h.0) (λ h. all h.0))

  -- ---- by induction over the part

  abbrev Held : Frame → RootFilling → Type 0
  Held frame filling = FrameFrom P (R root) frame × FillingFrom filling

  abbrev RootingFrom : Rooting → Type 0
  RootingFrom put =
      (frame : Frame) (filling : RootFilling) (used : List FileKey) →
      Gives U (Held frame filling) used (put opens frame filling used) FillingFrom

  rooted :
      (put : Rooting) → RootingFrom put → (H : Type 0) (frame : Frame) (filling : RootFilling)
      (used : List FileKey) → (H → FrameFrom P (R root) frame) → (H → FillingFrom filling) →
      Gives U H used (put opens frame filling used) FillingFrom
  rooted put puts H frame filling used from all =
      given U FillingFrom (Held frame filling) H used (put opens frame filling used)
      (λ h. (from h, all h)) (puts frame filling used)

  abbrev BodyClaim : NodeBody → Type 0
  BodyClaim one =
      BodyIn (R root) (out-NodeBody one) → (problem : ExpandProblem) (place : Place) →
      (R root).at place → Each (Stood (R root) place) (said_in (out-NodeBody one)) →
      RootingFrom ((body_seen one).put problem place)

  abbrev NodeClaim : Node → Type 0
  NodeClaim one =
      NodeIn (R root) one → (problem : ExpandProblem) → RootingFrom ((node_seen one).put problem)

  abbrev PairClaim : NodePair → Type 0
  PairClaim one = PairIn (R root) one → RootingFrom (pair_seen one).put

  pairs_puts :
      (pairs : List NodePair) → Each PairClaim pairs → Each (PairIn (R root)) pairs → (H : Type 0)
      (frame : Frame) (filling : RootFilling) (used : List FileKey) →
      (H → FrameFrom P (R root) frame) → (H → FillingFrom filling) →
      Gives U H used (pairs_put (map pair_seen pairs) opens frame filling used) FillingFrom
  pairs_puts [] claims within H frame filling used from all =
      done_gives U FillingFrom H used filling all
  pairs_puts (pair ∷ pairs) claims within H frame filling used from all =
      used_then U FillingFrom FillingFrom H used ((pair_seen pair).put opens frame filling used)
      (pairs_put (map pair_seen pairs) opens frame)
      (rooted (pair_seen pair).put (claims.0 within.0) H frame filling used from all)
      (λ after later. pairs_puts pairs claims.1 within.1 (H × FillingFrom after) frame after later
      (λ h. from h.0) (λ h. h.1))

  opened_body : (layer : Body) → out-NodeBody (roll-NodeBody layer) ≡ layer
  opened_body layer = search (rules, the_lemmas)

  abbrev PutFrom : Body → (ExpandProblem → Place → Rooting) → Type 0
  PutFrom layer put =
      (problem : ExpandProblem) (place : Place) → (R root).at place →
      Each (Stood (R root) place) (said_in layer) → RootingFrom (put problem place)

  layer_claim :
      (layer : Body) → BodyParts NodeClaim PairClaim layer → BodyIn (R root) layer →
      PutFrom layer (body_seen (roll-NodeBody layer)).put
  layer_claim (Scalar text) claims within =
      let seen : text_put text ≡ (body_seen (roll-NodeBody (Scalar text))).put =
      search (rules, the_lemmas) in
      subst (PutFrom (Scalar text)) seen
      (λ problem place here says frame filling used.
      text_puts text problem place (Held frame filling) frame filling used here says.0 (λ h. h.0)
      (λ h. h.1))
  layer_claim (Seq items) claims within =
      let seen : list_put ≡ (body_seen (roll-NodeBody (Seq items))).put =
      search (rules, the_lemmas) in
      subst (PutFrom (Seq items)) seen
      (λ problem place here says frame filling used.
      plain_then U FillingFrom (Held frame filling) used (entered place filling.progress.count) _
      (λ count. tt))
  layer_claim (Map pairs) claims within =
      let seen : mapping_put (map pair_seen pairs) ≡ (body_seen (roll-NodeBody (Map pairs))).put =
      search (rules, the_lemmas) in
      subst (PutFrom (Map pairs)) seen
      (λ problem place here says frame filling used.
      plain_then U FillingFrom (Held frame filling) used (entered place filling.progress.count) _
      (λ count. pairs_puts pairs claims within (Held frame filling) frame (counting count filling)
      used (λ h. h.0) (λ h. h.1)))

  of_layer :
      (layer : Body) → BodyParts NodeClaim PairClaim layer → BodyClaim (roll-NodeBody layer)
  of_layer layer claims within problem place here says =
      layer_claim layer claims (subst (BodyIn (R root)) (opened_body layer) within) problem place
      here
      (subst (λ (layer : Body). Each (Stood (R root) place) (said_in layer)) (opened_body layer)
      says)

  of_node :
      (place : Place) (one : NodeBody) → BodyClaim one →
      NodeClaim (record { place = place; body = one })
  of_node place one claim within problem =
      let node : Node = record { place = place; body = one } in
      let seen : node_put place (body_seen one) ≡ (node_seen node).put =
      search (rules, the_lemmas) in
      let parts = node_in (R root) node within in
      subst (λ (put : ExpandProblem → Rooting). RootingFrom (put problem)) seen
      (λ frame filling used. used_then U FillingFrom FillingFrom (Held frame filling) used
      ((body_seen one).put problem place opens frame (chained Closed filling) used) _
      (rooted ((body_seen one).put problem place)
      (claim parts.1 problem place parts.0 (node_says (R root) node within))
      (Held frame filling) frame (chained Closed filling) used (λ h. h.0) (λ h. h.1))
      (λ after later. done_gives U FillingFrom (Held frame filling × FillingFrom after) later
      (chained Closed after) (λ h. h.1)))

  module _ (item : Node) (within : NodeIn (R root) item) (claim : NodeClaim item) where
    turns_puts :
        (name : List ℕ) (items : List MarkedNode) (H : Type 0) (frame : Frame)
        (filling : RootFilling) (used : List FileKey) →
        (H → Each (SeenFrom P (R root)) items) → (H → FrameFrom P (R root) frame) →
        (H → FillingFrom filling) →
        Gives U H used (turns_put name (node_seen item) items opens frame filling used)
        FillingFrom
    turns_puts name [] H frame filling used each from all =
        done_gives U FillingFrom H used filling all
    turns_puts name (one ∷ items) H frame filling used each from all =
        used_then U FillingFrom FillingFrom H used
        ((node_seen item).put WrongKind opens (turn_frame frame name one) filling used)
        (turns_put name (node_seen item) items opens frame)
        (rooted ((node_seen item).put WrongKind) (claim within WrongKind) H
        (turn_frame frame name one) filling used
        (λ h. turn_from P (R root) frame (from h) name one (each h).0) all)
        (λ after later. turns_puts name items (H × FillingFrom after) frame after later
        (λ h. (each h.0).1) (λ h. from h.0) (λ h. h.1))

    asked_puts :
        (asked : Action) (H : Type 0) (frame : Frame) (filling : RootFilling)
        (used : List FileKey) → (H → ActionFrom P (R root) asked) →
        (H → FrameFrom P (R root) frame) → (H → FillingFrom filling) →
        Gives U H used (asked_put asked (node_seen item) opens frame filling used) FillingFrom
    asked_puts (Put key origin) H frame filling used own from all =
        subst (λ (node : Node).
        Gives U H used (named_put key origin node opens frame filling used) FillingFrom)
        (sym (node_itself item))
        (named_gives key origin item H frame filling used within own from all)
    asked_puts (Run chain) H frame filling used own from all =
        used_then U FillingFrom FillingFrom H used
        ((node_seen item).put WrongKind opens frame filling used) _
        (rooted ((node_seen item).put WrongKind) (claim within WrongKind) H frame filling used from
        all)
        (λ after later. done_gives U FillingFrom (H × FillingFrom after) later
        (chained chain after) (λ h. h.1))
    asked_puts (Pass chain) H frame filling used own from all =
        done_gives U FillingFrom H used (chained chain filling) all
    asked_puts (Repeat loop count) H frame filling used own from all =
        turns_puts loop.name loop.items H frame (chained Closed (counting count filling)) used own
        from all
    asked_puts Insert H frame filling used own from all =
        rooted ((node_seen item).put InsertNoMapping) (claim within InsertNoMapping) H frame filling
        used from all

  of_pair :
      (key : List ℕ) (key_place : Place) (item : Node) → NodeClaim item →
      PairClaim (record { key = key; key_place = key_place; item = item })
  of_pair key key_place item claim within =
      let pair : NodePair = record { key = key; key_place = key_place; item = item } in
      let seen : pair_put key key_place (node_seen item) ≡ (pair_seen pair).put =
      search (rules, the_lemmas) in
      let parts = pair_in (R root) pair within in
      subst RootingFrom seen
      (λ frame filling used. first_then U (ActionFrom P (R root)) FillingFrom (Held frame filling)
      used (key_asks key frame key_place filling.progress.chain filling.progress.count) _
      (λ h. key_asks_from P (R root) frame h.0 key_place parts.0 key
      (pair_says (R root) pair within) filling.progress.chain filling.progress.count)
      (λ asked. asked_puts item parts.1 claim asked
      (Held frame filling × ActionFrom P (R root) asked) frame filling used (λ h. h.1)
      (λ h. h.0.0) (λ h. h.0.1)))

  node_puts : (node : Node) → NodeClaim node
  node_puts = written_induction BodyClaim NodeClaim PairClaim of_layer of_node of_pair

  pair_puts : (pair : NodePair) → PairClaim pair
  pair_puts pair within =
      of_pair pair.key pair.key_place pair.item (node_puts pair.item) within

  variables_give :
      (node : MarkedNode) (pair : NodePair) (frame : Frame) (filling : RootFilling) →
      PairIn (R root) pair → FrameFrom P (R root) frame → HeldFrom P (R root) node →
      FillingFrom filling →
      IfOk (variables_pair node pair frame filling) FillingFrom
  variables_give node pair frame filling within from own all =
      ok_then (ProgressFrom P (R root)) FillingFrom (put_variables node pair frame filling.progress)
      _ (put_pair_from P (R root) _ filling.progress.count filling.progress
      (pair_from P P pair.key (literal_at frame pair.key_place) node
      (from.literal pair.key_place (pair_in (R root) pair within).0)
      (λ files. from.reads.says pair.key_place (key_said pair.key)
      (pair_says (R root) pair within)) own.0) own.1.0 all.0)
      (λ after is. (is, all.1))

  pair_gives_root :
      (of : RootKey) (early : Option MarkedNode) (pair : NodePair) (H : Type 0) (frame : Frame)
      (filling : RootFilling) (used : List FileKey) → PairIn (R root) pair →
      (H → FrameFrom P (R root) frame) → (H → Has (HeldFrom P (R root)) early) →
      (H → FillingFrom filling) →
      Gives U H used (root_pair of early pair opens frame filling used) FillingFrom
  pair_gives_root key.Parameters early pair H frame filling used within from known all =
      done_gives U FillingFrom H used (passed_over filling) all
  pair_gives_root key.Resources early pair H frame filling used within from known all =
      done_gives U FillingFrom H used (passed_over filling) all
  pair_gives_root key.Extends early pair H frame filling used within from known all =
      rooted (pair_seen pair).put (pair_puts pair within) H frame filling used from all
  pair_gives_root key.Variables (Some node) pair H frame filling used within from known all =
      alone_gives U FillingFrom H used (variables_pair node pair frame filling)
      (λ h. variables_give node pair frame filling within (from h) (known h) (all h))
  pair_gives_root key.Variables None pair H frame filling used within from known all =
      rooted (pair_seen pair).put (pair_puts pair within) H frame filling used from all
  pair_gives_root key.Other early pair H frame filling used within from known all =
      rooted (pair_seen pair).put (pair_puts pair within) H frame filling used from all

  to_pair : (of : RootKey) (early : Option MarkedNode) → Has (HeldFrom P (R root)) early →
      Has (HeldFrom P (R root)) (given_to of early)
  to_pair key.Parameters early known = tt
  to_pair key.Resources early known = tt
  to_pair key.Extends early known = tt
  to_pair key.Variables early known = known
  to_pair key.Other early known = tt

  to_rest : (of : RootKey) (early : Option MarkedNode) → Has (HeldFrom P (R root)) early →
      Has (HeldFrom P (R root)) (early_behind of early)
  to_rest key.Parameters early known = known
  to_rest key.Resources early known = known
  to_rest key.Extends early known = known
  to_rest key.Variables early known = tt
  to_rest key.Other early known = known

  pairs_give_root :
      (early : Option MarkedNode) (pairs : List NodePair) (H : Type 0) (frame : Frame)
      (filling : RootFilling) (used : List FileKey) → Each (PairIn (R root)) pairs →
      (H → FrameFrom P (R root) frame) → (H → Has (HeldFrom P (R root)) early) →
      (H → FillingFrom filling) →
      Gives U H used (root_pairs early pairs opens frame filling used) FillingFrom
  pairs_give_root early [] H frame filling used within from known all =
      done_gives U FillingFrom H used filling all
  pairs_give_root early (pair ∷ pairs) H frame filling used within from known all =
      let of = root_key pair.key in
      used_then U FillingFrom FillingFrom H used
      (root_pair of (given_to of early) pair opens frame filling used)
      (root_pairs (early_behind of early) pairs opens frame)
      (pair_gives_root of (given_to of early) pair H frame filling used within.0 from
      (λ h. to_pair of early (known h)) all)
      (λ after later. pairs_give_root (early_behind of early) pairs (H × FillingFrom after) frame
      after later within.1 (λ h. from h.0) (λ h. to_rest of early (known h.0)) (λ h. h.1))

  -- ---- the root's tree

  abbrev pub RootNodeFrom : RootNode → Type 0
  RootNodeFrom one =
      (file : FileKey) → one.extends ≡ Some file → Each (PairFrom (T file) (T file))
      (jobs_of one.node)

  same_file :
      (tree : MarkedNode) (extended file : FileKey) → Some extended ≡ Some file →
      Each (PairFrom (T extended) (T extended)) (jobs_of tree) → Each (PairFrom (T file) (T file))
      (jobs_of tree)
  same_file tree extended file same all =
      let is : extended ≡ file = cc in
      subst (λ (one : FileKey). Each (PairFrom (T one) (T one)) (jobs_of tree)) is all

  no_file : (tree : MarkedNode) (file : FileKey) → ◌≡◌ {A = Option FileKey} None (Some file) →
      Each (PairFrom (T file) (T file)) (jobs_of tree)
  no_file tree file none = absurd (cc)

  pub root_by :
      (origin : Origin) (progress : Progress) (extension : Option Extension) →
      Has (ExtensionFrom T) extension →
      IfOk (root_from origin (filled_with extension progress)) RootNodeFrom
  root_by origin progress None all =
      any_then RootNodeFrom (root_object None origin progress.content) _
      (λ tree file is. no_file tree file is)
  root_by origin progress (Some extension) all =
      ok_then (λ tree. Each (PairFrom (T extension.file) (T extension.file)) (jobs_of tree))
      RootNodeFrom
      (root_object (Some extension) origin progress.content) _
      (tree_from (T extension.file) extension origin progress.content all)
      (λ tree are file is. same_file tree extension.file file is are)

  abbrev EarlyFrom : Early → Type 0
  EarlyFrom early = Has (HeldFrom P (R root)) early.node

  early_gives :
      (node : Option Node) (H : Type 0) (frame : Frame) (count : ℕ) (used : List FileKey) →
      Has (NodeIn (R root)) node → (H → FrameFrom P (R root) frame) →
      Gives U H used (early_by node (followed 100 opens) frame count used) EarlyFrom
  early_gives None H frame count used within from =
      done_gives U EarlyFrom H used (record { node = None; count = count }) (λ h. tt)
  early_gives (Some node) H frame count used within from =
      used_then U (OneFrom P (R root)) EarlyFrom H used
      (expanded node (scope_of (followed 100 opens) frame (Calls InVariables)) count used) _
      (expanded_gives P (R root) U node within H (followed 100 opens) frame (Calls InVariables)
      count used (follows 100) from)
      (λ one later. done_gives U EarlyFrom (H × OneFrom P (R root) one) later
      (record { node = Some one.node; count = one.count }) (λ h. h.1))

  module _ (A : RunArgument → Place → Type 0) (own : RootBorder P (R root) A)
      (N : RootNode → Type 0)
      (finishes : (origin : Origin) (filling : RootFilling) → P.own origin → FillingFrom filling →
      IfOk (root_from origin filling) N) where
    filled_gives :
        (place : Place) (pairs : List NodePair) (parameters : List Parameter) (H : Type 0)
        (early : Early) (used : List FileKey) → (R root).at place → Each (PairIn (R root)) pairs →
        Each (ParameterFrom P (R root)) parameters → (H → EarlyFrom early) →
        Gives U H used (filled_root (root_mapping root place pairs parameters) opens early used) N
    filled_gives place pairs parameters H early used here within are known =
        let frame = second_frame root parameters early.node in
        let start = filled_with None (begun content.Pairs Closed early.count) in
        used_then U FillingFrom N H used
        (root_pairs early.node pairs opens frame start used) _
        (pairs_give_root early.node pairs H frame start used within
        (λ h. root_frame_from P (R root) A own root parameters _ are) known (λ h. ((tt, tt), tt)))
        (λ filling later. alone_gives U N (H × FillingFrom filling) later
        (root_from (literal_at frame place) filling)
        (λ h. finishes (literal_at frame place) filling (own.literal place here) h.1))

    pub pairs_expanded_give :
        (place : Place) (pairs : List NodePair) (parameters : List Parameter) → (R root).at place →
        Each (PairIn (R root)) pairs → Each (ParameterFrom P (R root)) parameters →
        Gives U (Unit {0}) [] (pairs_expanded (root_mapping root place pairs parameters) opens) N
    pairs_expanded_give place pairs parameters here within are =
        plain_then U N (Unit {0}) [] (entered place 0) _
        (λ count. used_then U EarlyFrom N (Unit {0}) []
        (early_by (under (codes "variables") pairs) (followed 100 opens)
        (first_frame root parameters) count [])
        (filled_root (root_mapping root place pairs parameters) opens)
        (early_gives (under (codes "variables") pairs) (Unit {0}) (first_frame root parameters)
        count [] (under_in (R root) (codes "variables") pairs within)
        (λ h. root_frame_from P (R root) A own root parameters _ are))
        (λ early later. filled_gives place pairs parameters (Unit {0} × EarlyFrom early) early
        later here within are (λ h. h.1)))
