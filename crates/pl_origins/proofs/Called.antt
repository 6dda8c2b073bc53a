-- What calls of templates give.
use Rattle.std.proofs.Common.{◌≡◌, ℕ, zero, suc, ap, subst, Option, Some, None, Result, List, []}
use Rattle.std.proofs.Common.{◌∷◌, ◌++◌, map, refl, Bool, true, false, cond}
use Rattle.std.specs.Prelude.{IfOk, codes}
use Rattle.std.specs.List.{AllByRecursion as Each}
use Rattle.pl_base.specs.declared.origin.Crossing.{Crossing}
use Rattle.pl_base.specs.declared.origin.Crossing.TheVariants.{Include, Argument, Made}
use Rattle.pl_base.specs.declared.origin.Origin.{Origin}
use Rattle.pl_base.specs.declared.place.FileKey.{FileKey}
use Rattle.pl_base.specs.declared.place.Place.{Place}
use Rattle.pl_base.specs.declared.node.Node.{Node}
use Rattle.pl_base.specs.declared.node.NodePair.{NodePair}
use Rattle.pl_base.specs.declared.node.NodeBody.TheOpen.{Scalar, Seq, Map}
use Rattle.pl_base.specs.declared.value.Value.{Value, Str, out-Value}
use Rattle.pl_base.specs.declared.value.Value.TheOpen as layer
use Rattle.pl_base.specs.declared.value.MarkedNode.{MarkedNode}
use Rattle.pl_base.specs.declared.value.MarkedPair.{MarkedPair}
use Rattle.pl_frame.specs.declared.frame.Frame.{Frame}
use Rattle.pl_frame.specs.declared.frame.Variable.{Variable}
use Rattle.pl_frame.specs.Origins.{across}
use Rattle.pl_base.specs.Texts.{is}
use Rattle.pl_params.specs.declared.given.Given.{Given}
use Rattle.pl_directives.specs.declared.fault.ExpandFault.{ExpandFault}
use Rattle.pl_directives.specs.declared.fault.ExpandProblem.{ExpandProblem}
use Rattle.pl_directives.specs.declared.progress.Counted.{Counted}
use Rattle.pl_directives.specs.declared.region.Form.{Form}
use Rattle.pl_directives.specs.declared.region.Form.TheVariants.{Stages, Jobs, Steps, Variables}
use Rattle.pl_directives.specs.declared.region.Region.TheVariants.{Calls as InCalls}
use Rattle.pl_directives.specs.Counting.{entered}
use Rattle.pl_expr.specs.Conversions.{cast_text}
use Rattle.pl_recursion.specs.Below.pl_calls.specs.Calls.{Called, text_from, path_text, pairs_from, arguments_at}
use Rattle.pl_recursion.specs.Below.pl_calls.specs.Calls.{arguments_behind}
use Rattle.pl_recursion.specs.Below.pl_calls.specs.Calls.{call_from, call_of, given_across}
use Rattle.pl_recursion.specs.Below.pl_calls.specs.Frames.{parameters_for, template_of, framed_by}
use Rattle.pl_recursion.specs.Below.pl_calls.specs.Judging.{unless_at, mapping_in, template_in, held, body_in, form_key}
use Rattle.pl_recursion.specs.Below.pl_calls.specs.Judging.{stray, may_stand, body_fits}
use Rattle.pl_recursion.specs.Below.pl_calls.specs.Parameters.{declared_by, bound_to}
use Rattle.pl_recursion.specs.Below.pl_calls.specs.Parts.{Body, body_of, key_place_of}
use Rattle.pl_params.specs.Nodes.{under}
use Rattle.pl_recursion.specs.Below.pl_calls.specs.Reaching.{Opens, node_in as file_node}
use Rattle.pl_recursion.specs.Below.pl_calls.specs.declared.reaching.Opened.{Opened as OpenedFile}
use Rattle.pl_recursion.specs.Expanding.{expanded}
use Rattle.pl_recursion.specs.Following.{Follow, scope_of}
use Rattle.pl_recursion.specs.Levels.{variable_item, items_of, items_from, frame_for, deeper}
use Rattle.pl_recursion.specs.Levels.{call_by, followed}
use Rattle.pl_eval_laws.proofs.Leads.{Opened, Head, head_by, atom_by, atom_of}
use Rattle.pl_eval_laws.specs.Marks.{scalar}
use Rattle.pl_eval_laws.proofs.Marks.{atom_value}
use Rattle.pl_eval_laws.proofs.Lists.{Has, each_map}
use Rattle.pl_eval_laws.proofs.Trees.{Asked, Told, Atom, Calling, node_told, pair_told}
use Rattle.pl_eval_laws.proofs.Trees.{NodeFrom, PairFrom, OpenedFrom, Led, pair_from, text_node}
use Rattle.pl_eval_laws.proofs.Trees.{object_node, node_parts, node_led, pair_parts, value_parts}
use Rattle.pl_origins.proofs.Bound.{ParamIn, AreBound, Takeable, declared_in, bound_to_from}
use Rattle.pl_origins.proofs.Bound.{parameters_from}
use Rattle.pl_origins.proofs.Expanded.{expanded_gives}
use Rattle.pl_origins.proofs.Following.{FollowedFrom, FollowFrom, IsTemplate}
use Rattle.pl_origins.proofs.Frames.{Seen, Keeps, Reads, FrameFrom, ParameterFrom}
use Rattle.pl_origins.proofs.Moved.{moved_from}
use Rattle.pl_origins.proofs.Nodes.{Site, NodeIn, PairIn, BodyIn, node_in, under_in}
use Rattle.pl_origins.proofs.Scalars.{OneFrom}
use Rattle.pl_origins.proofs.Steps.{Gives, ok_then, plain_then, static_then, first_then}
use Rattle.pl_origins.proofs.Steps.{used_then, used_static_then, alone_gives, given}

-- ---- the frame behind a border

module _ (P Q : Asked) (R : Site) (reads : Reads R Q) (crossing : Crossing)
    (crossings : List Crossing)
    (literal_is : (place : Place) → R.at place →
    Q.own (record { source = place; crossings = crossings ++ crossing ∷ [] }))
    (made_is : (place : Place) → R.at place →
    Q.own (record { source = place; crossings = (crossings ++ crossing ∷ []) ++ Made ∷ [] }))
    (argument_is : (origin : Origin) → P.own origin → (name : List ℕ) (place : Place) →
    R.at place → (Seen Q R).own (across (Argument name place) (across crossing origin))) where
  abbrev G : Asked
  G = Takeable (Seen Q R) R

  abbrev M : Asked
  M = Takeable Q R

  each_given :
      (arguments : List MarkedPair) → Each (PairFrom P P) arguments →
      Each (λ (one : Given). NodeFrom G M one.value) (map (given_across crossing) arguments)
  each_given [] all = tt
  each_given (pair ∷ arguments) all = (
    moved_from P G P M (across crossing) argument_is
        (λ origin is name place stands. (argument_is origin is name place stands).0)
        (λ item path. refl) (λ item path one own calls files. tt)
        (λ origin said own told files. tt) pair.item
        (pair_parts P P pair all.0).1,
    each_given arguments all.1,
  )

  pub framed_from :
      (file : FileKey) (pairs : List NodePair) (variables : List Variable)
      (arguments : List MarkedPair) → Each (PairIn R) pairs → Each (PairFrom P P) arguments →
      IfOk (framed_by (template_of file pairs) variables arguments crossing crossings)
      (FrameFrom Q R)
  framed_from file pairs variables arguments within all =
      let given = map (given_across crossing) arguments in
      let behind = crossings ++ crossing ∷ [] in
      ok_then (Each (ParameterFrom Q R)) (FrameFrom Q R) (parameters_for pairs behind given) _
      (ok_then (Each (ParamIn R)) (Each (ParameterFrom Q R))
      (declared_by (under (codes "parameters") pairs)) _
      (declared_in R (under (codes "parameters") pairs) (under_in R (codes "parameters") pairs
      within))
      (λ declared stands. ok_then (AreBound Q R reads declared) (Each (ParameterFrom Q R))
      (bound_to declared given) _
      (bound_to_from Q R reads declared given stands (each_given arguments all))
      (λ bound is_bound.
      parameters_from Q R reads behind literal_is declared bound stands is_bound)))
      (λ parameters is. record {
        literal = literal_is;
        made = made_is;
        reads = reads;
        parameters = is;
        loops = tt;
      })

-- ---- a template in its file

module _ (R : Site) where
  unless_in :
      {X : Type 0} (F : X → Type 0) (problem : ExpandProblem) (place : Option Place) (x : X) →
      F x → IfOk (unless_at problem place x) F
  unless_in F problem None x holds = holds
  unless_in F problem (Some place) x holds = tt

  mapping_inside :
      (body : Body) (place : Place) → BodyIn R body →
      IfOk (mapping_in body place) (Each (PairIn R))
  mapping_inside (Scalar text) place within = tt
  mapping_inside (Seq items) place within = tt
  mapping_inside (Map pairs) place within = within

  pub template_inside :
      (node : Node) → NodeIn R node → IfOk (template_in node) (Each (PairIn R))
  template_inside node within =
      ok_then (Each (PairIn R)) (Each (PairIn R)) (mapping_in (body_of node) node.place) _
      (mapping_inside (body_of node) node.place (node_in R node within).1)
      (λ pairs all. unless_in (Each (PairIn R)) _ (key_place_of (codes "extends") pairs) pairs all)

  held_inside :
      (place : Place) (body : Option Node) → Has (NodeIn R) body → IfOk (held place body) (NodeIn R)
  held_inside place None within = tt
  held_inside place (Some body) within = within

  body_inside :
      (form : Form) (place : Place) (pairs : List NodePair) → Each (PairIn R) pairs →
      IfOk (body_in form place pairs) (NodeIn R)
  body_inside form place pairs within =
      ok_then (NodeIn R) (NodeIn R) (held place (under (form_key form) pairs)) _
      (held_inside place (under (form_key form) pairs) (under_in R (form_key form) pairs within))
      (λ body all. unless_in (NodeIn R) _ (stray (may_stand form) pairs) body all)

-- ---- the item of a call

-- what is asked of a call whose path that text is
abbrev pub CallsBy : Asked → Origin → Origin → List ℕ → Type 0
CallsBy P item path text = (one : Value) × ((cast_text one ≡ text) × Calling P item path one)

-- A path's text is said where it comes from, which is behind the borders that the call tells.
abbrev pub PathFrom : Asked → Called → Type 0
PathFrom P call =
    (place : Place)
    × (P.own (record { source = place; crossings = call.crossings })
    × (Told P (record { source = place; crossings = call.crossings }) (scalar (Str call.path))
    × CallsBy P (record { source = call.at; crossings = call.crossings })
    (record { source = place; crossings = call.crossings }) call.path))

module _ (P : Asked) where
  abbrev pub CallFrom : Called → Type 0
  CallFrom call =
      P.own (record { source = call.at; crossings = call.crossings })
      × (PathFrom P call × Each (PairFrom P P) call.arguments)

  pub pairs_inside :
      (opened : Opened) (node : MarkedNode) → OpenedFrom P P opened →
      IfOk (pairs_from opened node) (Each (PairFrom P P))
  pairs_inside (layer.Object pairs) node all = all
  pairs_inside (layer.Array items) node all = tt
  pairs_inside layer.Null node all = tt
  pairs_inside (layer.Bool truth) node all = tt
  pairs_inside (layer.Number number) node all = tt
  pairs_inside (layer.Version segments) node all = tt
  pairs_inside (layer.Str text) node all = tt

  argument_by :
      (b : Bool) (pair : MarkedPair) (problem : Result (List MarkedPair) ExpandFault) →
      PairFrom P P pair → IfOk problem (Each (PairFrom P P)) →
      IfOk (cond b (pairs_from (out-Value pair.item.value) pair.item) problem) (Each (PairFrom P P))
  argument_by true pair problem all other =
      pairs_inside (out-Value pair.item.value) pair.item
      (value_parts P P pair.item.value (node_parts P P pair.item (pair_parts P P pair all).1).1)
  argument_by false pair problem all other = other

  arguments_inside :
      (found pairs : List MarkedPair) → Each (PairFrom P P) found → Each (PairFrom P P) pairs →
      IfOk (arguments_behind found pairs) (Each (PairFrom P P))
  arguments_inside found [] before all = before
  arguments_inside found (pair ∷ pairs) before all =
      ok_then (Each (PairFrom P P)) (Each (PairFrom P P)) (arguments_at pair) _
      (argument_by (is pair.key (codes "parameters")) pair _ all.0 tt)
      (λ found are. arguments_inside found pairs are all.1)

  cast_again : Keeps P.says → (path : MarkedNode) → Told P path.origin (scalar path.value) →
      Told P path.origin (scalar (Str (cast_text path.value)))
  cast_again keeps path told files =
      keeps.text path.origin.source (cast_text path.value)
      (keeps.cast path.origin.source path.value (told files))

  -- what is known of an item's path
  abbrev PathIs : Origin → MarkedNode → List ℕ → Type 0
  PathIs item path text =
      Told P path.origin (scalar (Str text)) × CallsBy P item path.origin text

  -- the text that an atom is cast to is said too
  own_atom :
      (keeps : Keeps P.says) (item : Origin) (path : MarkedNode) (atom : Option Value) →
      Has (λ atom. atom ≡ path.value) atom → Atom P path.origin atom →
      Has (Calling P item path.origin) atom →
      Has (λ atom. PathIs item path (cast_text path.value)) atom
  own_atom keeps item path None is told calls = tt
  own_atom keeps item path (Some atom) is told calls = (
    cast_again keeps path (subst (λ (one : Value). Told P path.origin (scalar one)) is told),
    (atom, (ap cast_text is, calls)),
  )

  path_told :
      (opened : Opened) (path : MarkedNode) (Q : List ℕ → Type 0) →
      Has (λ atom. Q (cast_text path.value)) (atom_by opened) → IfOk (text_from opened path) Q
  path_told (layer.Array items) path Q known = tt
  path_told (layer.Object pairs) path Q known = tt
  path_told layer.Null path Q known = known
  path_told (layer.Bool truth) path Q known = known
  path_told (layer.Number number) path Q known = known
  path_told (layer.Version segments) path Q known = known
  path_told (layer.Str text) path Q known = known

  path_from :
      (keeps : Keeps P.says) (item : Origin) (path : MarkedNode) → NodeFrom P P path →
      Has (Calling P item path.origin) (atom_of path.value) →
      IfOk (path_text path) (PathIs item path)
  path_from keeps item path all calls =
      path_told (out-Value path.value) path (PathIs item path)
      (own_atom keeps item path (atom_of path.value) (atom_value path.value)
      (node_told P P path all) calls)

  call_inside :
      (keeps : Keeps P.says) (opened : Opened) (own : Origin) → Led P own (head_by opened) →
      Has (λ (head : Head). head.key ≡ codes "template") (head_by opened) →
      OpenedFrom P P opened → IfOk (call_from opened own.source) CallFrom
  call_inside keeps (layer.Object []) own led template all = tt
  call_inside keeps (layer.Object (pair ∷ pairs)) own led template all =
      let path = (pair_parts P P pair all.0).1 in
      ok_then (PathIs own pair.item) CallFrom
      (path_text pair.item) _ (path_from keeps own pair.item path (led.1 template))
      (λ text told. ok_then (Each (PairFrom P P)) CallFrom (arguments_behind [] pairs) _
      (arguments_inside [] pairs tt all.1)
      (λ arguments are. (
        led.0,
        ((pair.item.origin.source, ((node_parts P P pair.item path).0, told)), are),
      )))
  call_inside keeps (layer.Array items) own led template all = tt
  call_inside keeps layer.Null own led template all = tt
  call_inside keeps (layer.Bool truth) own led template all = tt
  call_inside keeps (layer.Number number) own led template all = tt
  call_inside keeps (layer.Version segments) own led template all = tt
  call_inside keeps (layer.Str text) own led template all = tt

  pub call_of_from : Keeps P.says → (item : MarkedNode) → NodeFrom P P item → IsTemplate item →
      IfOk (call_of item) CallFrom
  call_of_from keeps item all template =
      call_inside keeps (out-Value item.value) item.origin (node_led P P item all) template
      (value_parts P P item.value (node_parts P P item all).1)

  -- ---- what a call gives in its item's place

  variable_from : Keeps P.says → (pair : MarkedPair) → PairFrom P P pair →
      NodeFrom P P (variable_item pair)
  variable_from keeps pair all =
      let parts = pair_parts P P pair all in
      let told = pair_told P P pair all in
      let at = pair.key_origin.source in
      object_node P P pair.key_origin parts.0 _ (
        pair_from P P (codes "name") pair.key_origin _ parts.0
            (λ files. keeps.name at pair.key (told files))
            (text_node P P pair.key_origin parts.0 pair.key
            (λ files. keeps.text at pair.key (told files))),
        (
          pair_from P P (codes "value") pair.key_origin pair.item parts.0
              (λ files. keeps.value at pair.key (told files)) parts.1,
          tt,
        ),
      ) (parts.0, λ is. absurd (cc))

  pub variables_from :
      Keeps P.says → (pairs : List MarkedPair) → Each (PairFrom P P) pairs →
      Each (NodeFrom P P) (map variable_item pairs)
  variables_from keeps pairs all =
      each_map (PairFrom P P) (NodeFrom P P) variable_item (variable_from keeps) pairs all

  items_inside :
      (keeps : Keeps P.says) (form : Form) (opened : Opened) (place : Place) → OpenedFrom P P opened
      →
      IfOk (items_of form opened place) (Each (NodeFrom P P))
  items_inside keeps form (layer.Array items) place all = all
  items_inside keeps Variables (layer.Object pairs) place all = variables_from keeps pairs all
  items_inside keeps Stages (layer.Object pairs) place all = tt
  items_inside keeps Jobs (layer.Object pairs) place all = tt
  items_inside keeps Steps (layer.Object pairs) place all = tt
  items_inside keeps form layer.Null place all = tt
  items_inside keeps form (layer.Bool truth) place all = tt
  items_inside keeps form (layer.Number number) place all = tt
  items_inside keeps form (layer.Version segments) place all = tt
  items_inside keeps form (layer.Str text) place all = tt

  items_from_inside :
      (R : Site) → Keeps P.says → (form : Form) (place : Place) (one : Counted) →
      OneFrom P R one → IfOk (items_from form place one) (FollowedFrom P)
  items_from_inside R keeps form place one all =
      ok_then (Each (NodeFrom P P)) (FollowedFrom P)
      (items_of form (out-Value one.node.value) place)
      _ (items_inside keeps form (out-Value one.node.value) place
      (value_parts P P one.node.value (node_parts P P one.node all.0).1))
      (λ items are. are)

-- ---- What P must keep across the border of a call into a file. R holds of the places of that
-- file, and K of it, of the path's text and of where the call's item stands. A call has that place,
-- and the borders that its path crossed.

pub record Borders (P : Asked) (R : FileKey → Site) (K : Place → List ℕ → FileKey → Type 0)
    : Type 0 where
  pub literal :
      (key : FileKey) (call : Called) (place : Place) → K call.at call.path key →
      P.own (record { source = call.at; crossings = call.crossings }) → PathFrom P call →
      (R key).at place →
      P.own (record { source = place; crossings = call.crossings ++ Include key call.at ∷ [] })
  pub made :
      (key : FileKey) (call : Called) (place : Place) → K call.at call.path key →
      P.own (record { source = call.at; crossings = call.crossings }) → PathFrom P call →
      (R key).at place →
      P.own (record {
        source = place;
        crossings = (call.crossings ++ Include key call.at ∷ []) ++ Made ∷ [];
      })
  pub argument :
      (key : FileKey) (call : Called) (given : Origin) (name : List ℕ) (place : Place) →
      K call.at call.path key →
      P.own (record { source = call.at; crossings = call.crossings }) → P.own given →
      (R key).at place →
      (Seen P (R key)).own (across (Argument name place) (across (Include key call.at) given))
  pub reads : (key : FileKey) → Reads (R key) P
  pub keeps : Keeps P.says

-- a file that a path leads to
abbrev pub FileIn : (FileKey → Site) → OpenedFile → Type 0
FileIn R opened = IfOk (file_node opened.file) (NodeIn (R opened.key))

pub record OpensFrom (R : FileKey → Site) (K : Place → List ℕ → FileKey → Type 0)
    (U : List FileKey → Type 0) (opens : Opens) : Type 0 where
  pub file :
      (at : Place) (path : List ℕ) (used : List FileKey) →
      IfOk (opens at path used) (λ both. FileIn R both.0)
  pub used :
      (at : Place) (path : List ℕ) (used : List FileKey) →
      Gives U (Unit {0}) used (opens at path used) (λ opened. K at path opened.key)

module _ (P : Asked) (R : FileKey → Site) (K : Place → List ℕ → FileKey → Type 0)
    (U : List FileKey → Type 0) (borders : Borders P R K) (opens : Opens)
    (opening : OpensFrom R K U opens) where
  frame_for_from :
      (key : FileKey) (pairs : List NodePair) (call : Called) (frame : Frame) →
      Each (PairIn (R key)) pairs → K call.at call.path key → CallFrom P call →
      IfOk (frame_for key pairs call frame) (FrameFrom P (R key))
  frame_for_from key pairs call frame within known from =
      framed_from P P (R key) (borders.reads key) (Include key call.at) call.crossings
      (λ place stands. borders.literal key call place known from.0 from.1.0 stands)
      (λ place stands. borders.made key call place known from.0 from.1.0 stands)
      (λ origin is name place stands. borders.argument key call origin name place known from.0 is
      stands)
      key pairs frame.variables call.arguments within from.1.1

  deeper_from :
      (next : Option Follow) (at : Place) → Has (FollowFrom P U) next →
      IfOk (deeper next at) (FollowFrom P U)
  deeper_from None at follows = tt
  deeper_from (Some follow) at follows = follows

  call_gives :
      (next : Option Follow) → Has (FollowFrom P U) next →
      FollowFrom P U (call_by next opens)
  call_gives next follows frame form item count used =
      let H : Type 0 = NodeFrom P P item × IsTemplate item in
      let S = FollowedFrom P in
      first_then U (CallFrom P) S H used (call_of item) _
      (λ h. call_of_from P borders.keeps item h.0 h.1)
      (λ call. static_then U (FollowFrom P U) S (H × CallFrom P call) used (deeper next call.at) _
      (deeper_from next call.at follows)
      (λ follow goes. used_static_then U (FileIn R)
      (λ (opened : OpenedFile). K call.at call.path opened.key) S (H × CallFrom P call) used
      (opens call.at call.path used) _
      (opening.file call.at call.path used)
      (given U (λ (opened : OpenedFile). K call.at call.path opened.key) (Unit {0}) (H × CallFrom P
      call)
      used (opens call.at call.path used) (λ h. tt) (opening.used call.at call.path used))
      (λ opened later file. static_then U (NodeIn (R opened.key)) S
      ((H × CallFrom P call) × K call.at call.path opened.key) later (file_node opened.file) _ file
      (λ node within. static_then U (Each (PairIn (R opened.key))) S
      ((H × CallFrom P call) × K call.at call.path opened.key) later (template_in node) _
      (template_inside (R opened.key) node within)
      (λ pairs inside. static_then U (NodeIn (R opened.key)) S
      ((H × CallFrom P call) × K call.at call.path opened.key) later (body_in form node.place pairs)
      _
      (body_inside (R opened.key) form node.place pairs inside)
      (λ body stands. first_then U (FrameFrom P (R opened.key)) S
      ((H × CallFrom P call) × K call.at call.path opened.key) later
      (frame_for opened.key pairs call frame) _
      (λ h. frame_for_from opened.key pairs call frame inside h.1 h.0.1)
      (λ inner. plain_then U S
      (((H × CallFrom P call) × K call.at call.path opened.key) × FrameFrom P (R opened.key) inner)
      later
      (entered node.place count) _
      (λ count. plain_then U S
      (((H × CallFrom P call) × K call.at call.path opened.key) × FrameFrom P (R opened.key) inner)
      later
      (body_fits form body) _
      (λ none. used_then U (OneFrom P (R opened.key)) S
      (((H × CallFrom P call) × K call.at call.path opened.key) × FrameFrom P (R opened.key) inner)
      later
      (expanded body (scope_of follow inner (InCalls form)) count later) _
      (expanded_gives P (R opened.key) U body stands
      (((H × CallFrom P call) × K call.at call.path opened.key) × FrameFrom P (R opened.key) inner)
      follow
      inner (InCalls form) count later goes (λ h. h.1))
      (λ one last. alone_gives U S
      ((((H × CallFrom P call) × K call.at call.path opened.key) × FrameFrom P (R opened.key) inner)
      × OneFrom P (R opened.key) one) last (items_from form body.place one)
      (λ h. items_from_inside P (R opened.key) borders.keeps form body.place one h.1)))))))))))

  -- with so many levels of templates below
  pub followed_gives : (levels : ℕ) → FollowFrom P U (followed levels opens)
  unfolding followed
  followed_gives zero = call_gives None tt
  followed_gives (suc left) =
      call_gives (Some (followed left opens)) (followed_gives left)
