-- What a template gives that the root file extends.
use Rattle.std.proofs.Common.{ℕ, Bool, true, false, cond, Option, Some, None, Ok}
use Rattle.std.proofs.Common.{List, [], ◌∷◌, ◌++◌}
use Rattle.std.specs.Prelude.{IfOk, codes, find}
use Rattle.std.specs.List.{AllByRecursion as Each}
use Rattle.pl_base.specs.declared.origin.Crossing.{Crossing}
use Rattle.pl_base.specs.declared.origin.Crossing.TheVariants.{Extends, Argument, Made}
use Rattle.pl_base.specs.declared.origin.Origin.{Origin}
use Rattle.pl_base.specs.declared.place.FileKey.{FileKey}
use Rattle.pl_base.specs.declared.place.Place.{Place}
use Rattle.pl_base.specs.declared.node.Node.{Node}
use Rattle.pl_base.specs.declared.node.NodePair.{NodePair}
use Rattle.pl_base.specs.declared.node.NodeBody.TheOpen.{Scalar, Seq, Map}
use Rattle.pl_base.specs.declared.value.Value.{Str, out-Value}
use Rattle.pl_base.specs.declared.value.Value.TheOpen as layer
use Rattle.pl_base.specs.declared.value.MarkedNode.{MarkedNode}
use Rattle.pl_base.specs.declared.value.MarkedPair.{MarkedPair}
use Rattle.pl_frame.specs.Doubles.{first_double}
use Rattle.pl_frame.specs.declared.frame.Frame.{Frame}
use Rattle.pl_frame.specs.Origins.{across}
use Rattle.pl_base.specs.Texts.{is}
use Rattle.pl_directives.specs.declared.fault.ExpandProblem.TheVariants.{WrongKind, KeyTwice}
use Rattle.pl_directives.specs.declared.manner.Kind.TheVariants as content
use Rattle.pl_directives.specs.declared.progress.Chain.TheVariants.{Closed}
use Rattle.pl_directives.specs.declared.progress.Content.{Content}
use Rattle.pl_directives.specs.declared.progress.Content.TheVariants.{Unknown, Items, Pairs}
use Rattle.pl_directives.specs.declared.progress.Counted.{Counted}
use Rattle.pl_directives.specs.declared.progress.Progress.{Progress}
use Rattle.pl_directives.specs.declared.region.Region.{Region}
use Rattle.pl_directives.specs.declared.region.Region.TheVariants.{Free, Quiet}
use Rattle.pl_directives.specs.declared.region.Region.TheVariants.{Extends as InExtends}
use Rattle.pl_directives.specs.Contents.{begun}
use Rattle.pl_directives.specs.Complaints.{refused}
use Rattle.pl_directives.specs.Counting.{entered}
use Rattle.pl_directives.specs.Scalars.{scalar_value}
use Rattle.pl_template.specs.Forms.{form_of}
use Rattle.pl_calls.specs.Calls.{path_text, pairs_from, arguments_at}
use Rattle.pl_calls.specs.Frames.{template_of, framed_by}
use Rattle.pl_calls.specs.Judging.{unless_at, stray, held, template_in, may_give}
use Rattle.pl_calls.specs.Parts.{Body, body_of}
use Rattle.pl_params.specs.Nodes.{under}
use Rattle.pl_calls.specs.Reaching.{Opens, node_in as file_node}
use Rattle.pl_calls.specs.declared.reaching.Opened.{Opened as OpenedFile}
use Rattle.pl_origins.specs.Below.pl_recursion.specs.Expanding.{part_of, entry_of, expanded, pair_behind}
use Rattle.pl_origins.specs.Below.pl_recursion.specs.Following.{Follow, scope_of}
use Rattle.pl_origins.specs.Below.pl_recursion.specs.Levels.{followed}
use Rattle.pl_origins.specs.Below.pl_recursion.specs.declared.followed.SettledPairs.{SettledPairs}
use Rattle.pl_eval_laws.proofs.Leads.{Opened}
use Rattle.pl_eval_laws.specs.Marks.{scalar}
use Rattle.pl_eval_laws.proofs.Lists.{Has, has_map, each_found}
use Rattle.pl_eval_laws.proofs.Trees.{Asked as Wanted}
use Rattle.pl_eval_laws.proofs.Trees.{NodeFrom, PairFrom, OpenedFrom, node_parts, pair_parts}
use Rattle.pl_eval_laws.proofs.Trees.{value_parts}
use Rattle.pl_origins.proofs.Called.{Borders, FileIn, OpensFrom, followed_gives, framed_from}
use Rattle.pl_origins.proofs.Called.{template_inside, pairs_inside}
use Rattle.pl_origins.proofs.Contents.{ContentFrom, ProgressFrom}
use Rattle.pl_origins.proofs.Expanded.{path_from, part_from, entry_from, expanded_gives, pair_gives}
use Rattle.pl_origins.proofs.Following.{FollowFrom}
use Rattle.pl_origins.proofs.Frames.{Seen, Reads, FrameFrom}
use Rattle.pl_origins.proofs.Nodes.{Site, NodeIn, PairIn, BodyIn, node_in, node_says, pair_in}
use Rattle.pl_origins.proofs.Nodes.{said_in, under_in, Stood}
use Rattle.pl_origins.proofs.Scalars.{OneFrom, SeenOne, scalar_value_from, seen_tree}
use Rattle.pl_origins.proofs.Steps.{Gives, any_then, ok_then, plain_then, static_then, first_then}
use Rattle.pl_origins.proofs.Steps.{used_then, used_static_then, alone_gives, done_gives, given}
use Rattle.pl_expand.specs.Below.pl_extends.specs.declared.extending.Extension.{Extension}
use Rattle.pl_expand.specs.Below.pl_extends.specs.Extending.{path_in, mapping_from, value_from, argument_behind}
use Rattle.pl_expand.specs.Below.pl_extends.specs.Extending.{arguments_behind, may_extend, extended_pairs, body_pair}
use Rattle.pl_expand.specs.Below.pl_extends.specs.Extending.{body_pairs, pairs_there, extension_of, body_filled}
use Rattle.pl_expand.specs.Below.pl_extends.specs.Extending.{opened_filled, Asked, asking, shown_by, shown}
use Rattle.pl_expand.specs.Below.pl_extends.specs.Extending.{reached_filled}
use Rattle.pl_expand.specs.Below.pl_extends.specs.Extending.{mapping_extended, item_under, argument_given}
use Rattle.pl_expand.specs.Below.pl_extends.specs.Extending.{arguments_given, path_given, pairs_asked, extended_from}
use Rattle.pl_expand.specs.Below.pl_extends.specs.Extending.{value_extended, are_plain, pairs_extended, text_extended}
use Rattle.pl_expand.specs.Below.pl_extends.specs.Extending.{extended_by, extended}

-- What must be so across the border of `extends` into a file, of which and of whose path's place K
-- holds: P holds of the origins of the root's frame, and T of those of the template's.
pub record ExtendsBorder (P : Wanted) (T : FileKey → Wanted) (R : FileKey → Site)
    (K : Place → List ℕ → FileKey → Type 0) : Type 0 where
  pub literal :
      (key : FileKey) (at : Place) (text : List ℕ) (path : Origin) (place : Place) →
      K at text key → P.own path → (R key).at place →
      (T key).own (record { source = place; crossings = path.crossings ++ Extends key ∷ [] })
  pub made :
      (key : FileKey) (at : Place) (text : List ℕ) (path : Origin) (place : Place) →
      K at text key → P.own path → (R key).at place →
      (T key).own (record {
        source = place;
        crossings = (path.crossings ++ Extends key ∷ []) ++ Made ∷ [];
      })
  pub argument :
      (key : FileKey) (at : Place) (text : List ℕ) (one : Origin) (name : List ℕ)
      (place : Place) → K at text key → P.own one → (R key).at place →
      (Seen (T key) (R key)).own (across (Argument name place) (across (Extends key) one))
  pub reads : (key : FileKey) → Reads (R key) (T key)

abbrev pub PairsFrom : Wanted → SettledPairs → Type 0
PairsFrom P all = Each (PairFrom P P) all.pairs

abbrev pub ExtensionFrom : (FileKey → Wanted) → Extension → Type 0
ExtensionFrom T extension =
    Each (PairFrom (T extension.file) (T extension.file)) extension.pairs

-- ---- in the root's file

module _ (P : Wanted) (R : Site) (U : List FileKey → Type 0) where
  held_inside :
      (place : Place) (body : Option Node) → Has (NodeIn R) body → IfOk (held place body) (NodeIn R)
  held_inside place None within = tt
  held_inside place (Some body) within = within

  path_inside :
      (pairs : List NodePair) (place : Place) (frame : Frame) (count : ℕ) →
      Each (PairIn R) pairs → FrameFrom P R frame →
      IfOk (path_in pairs place frame count) (OneFrom P R)
  path_inside pairs place frame count within from =
      ok_then (NodeIn R) (OneFrom P R) (held place (under (codes "template") pairs)) _
      (held_inside place (under (codes "template") pairs)
      (under_in R (codes "template") pairs within))
      (λ path stands. path_from P R frame from (part_of path).place (part_of path).shape
      (part_from P R U path stands).0 count)

  mapping_inside : (one : Counted) → OneFrom P R one → IfOk (mapping_from one) (PairsFrom P)
  mapping_inside one all =
      ok_then (Each (PairFrom P P)) (PairsFrom P) (pairs_from (out-Value one.node.value) one.node) _
      (pairs_inside P (out-Value one.node.value) one.node
      (value_parts P P one.node.value (node_parts P P one.node all.0).1))
      (λ pairs are. are)

  module _ (follow : Follow) (follows : FollowFrom P U follow) (frame : Frame) where
    value_gives :
        (H : Type 0) (node : Node) (count : ℕ) (used : List FileKey) → NodeIn R node →
        (H → FrameFrom P R frame) →
        Gives U H used (value_from node follow frame count used) (PairsFrom P)
    value_gives H node count used within from =
        used_then U (OneFrom P R) (PairsFrom P) H used
        (expanded node (scope_of follow frame Quiet) count used) _
        (expanded_gives P R U node within H follow frame Quiet count used follows from)
        (λ one later. alone_gives U (PairsFrom P) (H × OneFrom P R one) later (mapping_from one)
        (λ h. mapping_inside one h.1))

    argument_gives :
        (H : Type 0) (pair : NodePair) (before : SettledPairs) (used : List FileKey) →
        NodeIn R pair.item → (H → FrameFrom P R frame) → (H → PairsFrom P before) →
        Gives U H used (argument_behind pair follow frame before used) (PairsFrom P)
    argument_gives H pair before used within from all = by (is pair.key (codes "template"))
      where
        other : (b : Bool) → Gives U H used
            (cond b (value_from pair.item follow frame before.count used)
            (refused WrongKind pair.key_place)) (PairsFrom P)
        other true = value_gives H pair.item before.count used within from
        other false = tt

        by : (b : Bool) → Gives U H used
            (cond b (Ok (before, used))
            (cond (is pair.key (codes "parameters"))
            (value_from pair.item follow frame before.count used)
            (refused WrongKind pair.key_place))) (PairsFrom P)
        by true = done_gives U (PairsFrom P) H used before all
        by false = other (is pair.key (codes "parameters"))

    arguments_give :
        (H : Type 0) (pairs : List NodePair) (before : SettledPairs) (used : List FileKey) →
        Each (PairIn R) pairs → (H → FrameFrom P R frame) → (H → PairsFrom P before) →
        Gives U H used (arguments_behind pairs follow frame before used) (PairsFrom P)
    arguments_give H [] before used within from all =
        done_gives U (PairsFrom P) H used before all
    arguments_give H (pair ∷ pairs) before used within from all =
        used_then U (PairsFrom P) (PairsFrom P) H used
        (argument_behind pair follow frame before used) (arguments_behind pairs follow frame)
        (argument_gives H pair before used (pair_in R pair within.0).1 from all)
        (λ after later. arguments_give (H × PairsFrom P after) pairs after later within.1
        (λ h. from h.0) (λ h. h.1))

-- ---- the pairs of a template

module _ (P : Wanted) (R : Site) (U : List FileKey → Type 0) (follow : Follow)
    (follows : FollowFrom P U follow) (frame : Frame) (region : Region) where
  pair_put :
      (H : Type 0) (pair : NodePair) (progress : Progress) (used : List FileKey) →
      PairIn R pair → (H → FrameFrom P R frame) → (H → ProgressFrom P R progress) →
      Gives U H used (body_pair pair (scope_of follow frame region) progress used)
      (ProgressFrom P R)
  pair_put H pair progress used within from all = by (is pair.key (codes "parameters"))
    where
      by : (b : Bool) → Gives U H used
          (cond b (Ok (progress, used))
          (pair_behind (entry_of pair) (scope_of follow frame region) progress used))
          (ProgressFrom P R)
      by true = done_gives U (ProgressFrom P R) H used progress all
      by false =
          pair_gives P R U follow follows (entry_of pair) (entry_from P R U pair within) H frame
          region progress used from all

  pairs_put :
      (H : Type 0) (pairs : List NodePair) (progress : Progress) (used : List FileKey) →
      Each (PairIn R) pairs → (H → FrameFrom P R frame) → (H → ProgressFrom P R progress) →
      Gives U H used (body_pairs pairs (scope_of follow frame region) progress used)
      (ProgressFrom P R)
  pairs_put H [] progress used within from all =
      done_gives U (ProgressFrom P R) H used progress all
  pairs_put H (pair ∷ pairs) progress used within from all =
      used_then U (ProgressFrom P R) (ProgressFrom P R) H used
      (body_pair pair (scope_of follow frame region) progress used)
      (body_pairs pairs (scope_of follow frame region))
      (pair_put H pair progress used within.0 from all)
      (λ after later. pairs_put (H × ProgressFrom P R after) pairs after later within.1
      (λ h. from h.0) (λ h. h.1))

there_from :
    (P : Wanted) (R : Site) (content : Content) → ContentFrom P R content →
    Each (PairFrom P P) (pairs_there content)
there_from P R Unknown all = tt
there_from P R (Items items) all = tt
there_from P R (Pairs pairs) all = all.0

unless_in :
    {X : Type 0} (F : X → Type 0) (place : Option Place) (x : X) → F x →
    IfOk (unless_at WrongKind place x) F
unless_in F None x holds = holds
unless_in F (Some place) x holds = tt

pairs_inside_template :
    (R : Site) (node : Node) → NodeIn R node →
    IfOk (extended_pairs node) (Each (PairIn R))
pairs_inside_template R node within =
    ok_then (Each (PairIn R)) (Each (PairIn R)) (template_in node) _
    (template_inside R node within)
    (λ pairs all. unless_in (Each (PairIn R)) (stray may_extend pairs) pairs all)

-- ---- what a value asks for

abbrev pub AskedFrom : Wanted → Asked → Type 0
AskedFrom P asked = P.own asked.shown × Each (PairFrom P P) asked.arguments

module _ (P : Wanted) where
  shown_from : (key path : Origin) → P.own key → P.own path → P.own (shown key path)
  shown_from key path own other = by path.crossings
    where
      by : (crossings : List Crossing) → P.own (shown_by crossings key path)
      by [] = own
      by (crossing ∷ crossings) = other

  pub under_from :
      (key : List ℕ) (pairs : List MarkedPair) → Each (PairFrom P P) pairs →
      Has (NodeFrom P P) (item_under key pairs)
  under_from key pairs all =
      has_map (PairFrom P P) (NodeFrom P P) (λ pair. pair.item)
      (λ pair own. (pair_parts P P pair own).1) (find (λ pair. is pair.key key) pairs)
      (each_found (PairFrom P P) (λ pair. is pair.key key) pairs all)

  argument_from :
      (pair : MarkedPair) → PairFrom P P pair → IfOk (arguments_at pair) (Each (PairFrom P P))
  argument_from pair all = by (is pair.key (codes "parameters"))
    where
      by : (b : Bool) →
          IfOk (cond b (pairs_from (out-Value pair.item.value) pair.item)
          (refused WrongKind pair.key_origin.source)) (Each (PairFrom P P))
      by true =
          pairs_inside P (out-Value pair.item.value) pair.item
          (value_parts P P pair.item.value
          (node_parts P P pair.item (pair_parts P P pair all).1).1)
      by false = tt

  given_from :
      (found : List MarkedPair) (pair : MarkedPair) → Each (PairFrom P P) found →
      PairFrom P P pair → IfOk (argument_given found pair) (Each (PairFrom P P))
  given_from found pair before all = by (is pair.key (codes "template"))
    where
      by : (b : Bool) → IfOk (cond b (Ok found) (arguments_at pair)) (Each (PairFrom P P))
      by true = before
      by false = argument_from pair all

  all_given_from :
      (found pairs : List MarkedPair) → Each (PairFrom P P) found → Each (PairFrom P P) pairs →
      IfOk (arguments_given found pairs) (Each (PairFrom P P))
  all_given_from found [] before all = before
  all_given_from found (pair ∷ pairs) before all =
      ok_then (Each (PairFrom P P)) (Each (PairFrom P P)) (argument_given found pair) _
      (given_from found pair before all.0) (λ found are. all_given_from found pairs are all.1)

  path_from_given :
      (at : Place) (path : Option MarkedNode) → Has (NodeFrom P P) path →
      IfOk (path_given at path) (NodeFrom P P)
  path_from_given at None has = tt
  path_from_given at (Some path) has = has

  module _ (key : Origin) (at : Place) (own : P.own key) where
    pub pairs_ask :
        (pairs : List MarkedPair) → Each (PairFrom P P) pairs →
        IfOk (pairs_asked key at pairs) (AskedFrom P)
    pairs_ask pairs all =
        ok_then (NodeFrom P P) (AskedFrom P)
        (path_given at (item_under (codes "template") pairs)) _
        (path_from_given at (item_under (codes "template") pairs)
        (under_from (codes "template") pairs all))
        (λ path is_from. any_then (AskedFrom P) (path_text path) _
        (λ text. ok_then (Each (PairFrom P P)) (AskedFrom P) (arguments_given [] pairs) _
        (all_given_from [] pairs tt all)
        (λ arguments are. (
          shown_from key path.origin own (node_parts P P path is_from).0,
          are,
        ))))

-- ---- the extension

module _ (P : Wanted) (T : FileKey → Wanted) (R : FileKey → Site)
    (K : Place → List ℕ → FileKey → Type 0) (U : List FileKey → Type 0) (border : ExtendsBorder P T
    R K)
    (inside : (file : FileKey) → Borders (T file) R K) (outside : Borders P R K) (opens : Opens)
    (opening : OpensFrom R K U opens) where
  pub levels_follow : (levels : ℕ) → FollowFrom P U (followed levels opens)
  levels_follow levels = followed_gives P R K U outside opens opening levels

  body_gives :
      (file : FileKey) (place : Place) (pairs : List NodePair) (levels : ℕ) (H : Type 0)
      (inner : Frame) (count : ℕ) (used : List FileKey) → Each (PairIn (R file)) pairs →
      (H → FrameFrom (T file) (R file) inner) →
      Gives U H used (body_filled file place pairs (scope_of (followed levels opens) inner Free)
      count used)
      (ExtensionFrom T)
  body_gives file place pairs levels H inner count used within from =
      plain_then U (ExtensionFrom T) H used (entered place count) _
      (λ count. used_then U (ProgressFrom (T file) (R file)) (ExtensionFrom T) H used
      (body_pairs pairs (scope_of (followed levels opens) inner Free)
      (begun content.Pairs Closed count) used)
      _ (pairs_put (T file) (R file) U (followed levels opens)
      (followed_gives (T file) R K U (inside file) opens opening levels) inner Free H pairs
      (begun content.Pairs Closed count) used within from (λ h. (tt, tt)))
      (λ after later. alone_gives U (ExtensionFrom T) (H × ProgressFrom (T file) (R file) after)
      later (extension_of file after)
      (λ h. any_then (ExtensionFrom T)
      (unless_at KeyTwice (first_double (pairs_there after.content)) tt) _
      (λ none. there_from (T file) (R file) after.content h.1))))

  opened_gives :
      (opened : OpenedFile) (asked : Asked) (H : Type 0) (frame : Frame) (count : ℕ)
      (used : List FileKey) → FileIn R opened → (H → K asked.at asked.path opened.key) →
      (H → AskedFrom P asked) →
      Gives U H used
      (opened_filled opened asked.shown asked.arguments (followed 99 opens) frame count used)
      (ExtensionFrom T)
  opened_gives opened asked H frame count used file known all =
      let S = ExtensionFrom T in
      let key = opened.key in
      static_then U (NodeIn (R key)) S H used (file_node opened.file) _ file
      (λ node within. static_then U (Each (PairIn (R key))) S H used (extended_pairs node) _
      (pairs_inside_template (R key) node within)
      (λ pairs stands. first_then U (FrameFrom (T key) (R key)) S H used
      (framed_by (template_of key pairs) frame.variables asked.arguments (Extends key)
      asked.shown.crossings) _
      (λ h. framed_from P (T key) (R key) (border.reads key) (Extends key) asked.shown.crossings
      (λ place here.
      border.literal key asked.at asked.path asked.shown place (known h) (all h).0 here)
      (λ place here.
      border.made key asked.at asked.path asked.shown place (known h) (all h).0 here)
      (λ origin is name place here.
      border.argument key asked.at asked.path origin name place (known h) is here)
      key pairs frame.variables asked.arguments stands (all h).1)
      (λ inner. body_gives key node.place pairs 99 (H × FrameFrom (T key) (R key) inner) inner
      count used stands (λ h. h.1))))

  reached_gives :
      (asked : Asked) (H : Type 0) (frame : Frame) (count : ℕ) (used : List FileKey) →
      (H → AskedFrom P asked) →
      Gives U H used (reached_filled opens asked frame count used) (ExtensionFrom T)
  reached_gives asked H frame count used all =
      let S = ExtensionFrom T in
      used_static_then U (FileIn R) (λ (opened : OpenedFile). K asked.at asked.path opened.key) S H
      used
      (opens asked.at asked.path used) _ (opening.file asked.at asked.path used)
      (given U (λ (opened : OpenedFile). K asked.at asked.path opened.key) (Unit {0}) H used
      (opens asked.at asked.path used) (λ h. tt) (opening.used asked.at asked.path used))
      (λ opened later file. opened_gives opened asked (H × K asked.at asked.path opened.key) frame
      count later
      file
      (λ h. h.1) (λ h. all h.0))

  from_gives :
      (opened : Opened) (key : Origin) (at place : Place) (H : Type 0) (frame : Frame) (count : ℕ)
      (used : List FileKey) → (H → P.own key) → (H → OpenedFrom P P opened) →
      Gives U H used (extended_from opened opens key at place frame count used) (ExtensionFrom T)
  from_gives (layer.Object pairs) key at place H frame count used own all =
      first_then U (AskedFrom P) (ExtensionFrom T) H used (pairs_asked key at pairs) _
      (λ h. pairs_ask P key at (own h) pairs (all h))
      (λ asked. reached_gives asked (H × AskedFrom P asked) frame count used (λ h. h.1))
  from_gives (layer.Array items) key at place H frame count used own all = tt
  from_gives layer.Null key at place H frame count used own all = tt
  from_gives (layer.Bool truth) key at place H frame count used own all = tt
  from_gives (layer.Number number) key at place H frame count used own all = tt
  from_gives (layer.Version segments) key at place H frame count used own all = tt
  from_gives (layer.Str text) key at place H frame count used own all = tt

  pub value_extends :
      (key : Origin) (place : Place) (node : MarkedNode) (H : Type 0) (frame : Frame) (count : ℕ)
      (used : List FileKey) → (H → P.own key) → (H → NodeFrom P P node) →
      Gives U H used (value_extended opens key place node frame count used) (ExtensionFrom T)
  value_extends key place node H frame count used own all =
      from_gives (out-Value node.value) key node.origin.source place H frame count used own
      (λ h. value_parts P P node.value (node_parts P P node (all h)).1)

  module _ (root : FileKey) (key : Origin) (H : Type 0) (frame : Frame)
      (from : H → FrameFrom P (R root) frame) (own : H → P.own key) where
    mapping_gives :
        (place : Place) (pairs : List NodePair) (count : ℕ) (used : List FileKey) →
        Each (PairIn (R root)) pairs →
        Gives U H used (mapping_extended opens key place pairs frame count used) (ExtensionFrom T)
    mapping_gives place pairs count used within =
        let S = ExtensionFrom T in
        plain_then U S H used (entered place count) _
        (λ count. first_then U (OneFrom P (R root)) S H used (path_in pairs place frame count) _
        (λ h. path_inside P (R root) U pairs place frame count within (from h))
        (λ path. plain_then U S (H × OneFrom P (R root) path) used (path_text path.node) _
        (λ text. used_then U (PairsFrom P) S (H × OneFrom P (R root) path) used
        (arguments_behind pairs (followed 100 opens) frame
        (record { pairs = []; count = path.count }) used) _
        (arguments_give P (R root) U (followed 100 opens) (levels_follow 100) frame
        (H × OneFrom P (R root) path) pairs (record { pairs = []; count = path.count }) used within
        (λ h. from h.0) (λ h. tt))
        (λ arguments later. reached_gives
        (asking place text (shown key path.node.origin) arguments.pairs)
        ((H × OneFrom P (R root) path) × PairsFrom P arguments) frame arguments.count later
        (λ h. (
          shown_from P key path.node.origin (own h.0.0) (node_parts P P path.node h.0.1.0).0,
          h.1,
        ))))))

    pairs_extend :
        (plain : Bool) (node : Node) (pairs : List NodePair) (count : ℕ) (used : List FileKey) →
        NodeIn (R root) node → Each (PairIn (R root)) pairs →
        Gives U H used (pairs_extended plain opens key node pairs frame count used)
        (ExtensionFrom T)
    pairs_extend true node pairs count used within inside_it =
        mapping_gives node.place pairs count used inside_it
    pairs_extend false node pairs count used within inside_it =
        used_then U (OneFrom P (R root)) (ExtensionFrom T) H used
        (expanded node (scope_of (followed 100 opens) frame InExtends) count used) _
        (expanded_gives P (R root) U node within H (followed 100 opens) frame InExtends count used
        (levels_follow 100) from)
        (λ one later. value_extends key node.place one.node (H × OneFrom P (R root) one) frame
        one.count later (λ h. own h.0) (λ h. h.1.0))

    text_extends :
        (given : Bool) (place : Place) (text : List ℕ) (count : ℕ) (used : List FileKey) →
        (R root).at place → (R root).says place (scalar (Str text)) →
        Gives U H used (text_extended given opens key place text frame count used)
        (ExtensionFrom T)
    text_extends true place text count used here says =
        first_then U (SeenOne P (R root)) (ExtensionFrom T) H used
        (scalar_value text frame place count) _
        (λ h. scalar_value_from P (R root) frame (from h) place here text says count)
        (λ one. value_extends key place one.node (H × SeenOne P (R root) one) frame one.count used
        (λ h. own h.0) (λ h. seen_tree P (R root) one.node h.1))
    text_extends false place text count used here says = tt

    extended_by_gives :
        (body : Body) (node : Node) (count : ℕ) (used : List FileKey) → NodeIn (R root) node →
        Each (Stood (R root) node.place) (said_in body) → BodyIn (R root) body →
        Gives U H used (extended_by body opens key node frame count used) (ExtensionFrom T)
    extended_by_gives (Map pairs) node count used within says inside_it =
        pairs_extend (are_plain pairs) node pairs count used within inside_it
    extended_by_gives (Scalar text) node count used within says inside_it =
        text_extends (may_give (form_of text)) node.place text count used
        (node_in (R root) node within).0 says.0
    extended_by_gives (Seq items) node count used within says inside_it = tt

    pub extended_gives :
        (node : Node) (count : ℕ) (used : List FileKey) → NodeIn (R root) node →
        Gives U H used (extended opens key node frame count used) (ExtensionFrom T)
    extended_gives node count used within =
        extended_by_gives (body_of node) node count used within (node_says (R root) node within)
        (node_in (R root) node within).1
