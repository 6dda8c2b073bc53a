-- The jobs of the whole tree, where what is asked of origins is kept across all borders.
use Rattle.std.proofs.Common.{◌≡◌, ℕ, Option, Some, None, Result, Ok, Err, List, []}
use Rattle.std.specs.Prelude.{IfOk, codes}
use Rattle.std.specs.FinMap as finite
use Rattle.std.specs.List.{AllByRecursion as Each}
use Rattle.pl_base.specs.declared.expanded.Argument.{Argument as RunArgument}
use Rattle.pl_base.specs.declared.origin.Origin.{Origin}
use Rattle.pl_base.specs.declared.place.FileKey.{FileKey}
use Rattle.pl_base.specs.declared.place.Place.{Place}
use Rattle.pl_base.specs.declared.node.Node.{Node}
use Rattle.pl_base.specs.declared.node.NodePair.{NodePair}
use Rattle.pl_base.specs.declared.node.NodeBody.TheOpen.{Scalar, Seq, Map}
use Rattle.pl_frame.specs.declared.frame.Frame.{Frame}
use Rattle.pl_directives.specs.declared.fault.Complaint.{Complaint}
use Rattle.pl_directives.specs.declared.fault.ExpandFault.{ExpandFault}
use Rattle.pl_directives.specs.declared.region.Region.TheVariants.{Free}
use Rattle.pl_calls.specs.Meant.{◌>>>◌}
use Rattle.pl_calls.specs.Parts.{Body, body_of}
use Rattle.pl_params.specs.Nodes.{under}
use Rattle.pl_calls.specs.Reaching.{Opens, opens as opens_of}
use Rattle.pl_calls.specs.declared.reaching.Home.{Home}
use Rattle.pl_origins.specs.Below.pl_recursion.specs.Expanding.{expanded}
use Rattle.pl_origins.specs.Below.pl_recursion.specs.Following.{scope_of}
use Rattle.pl_origins.specs.Below.pl_recursion.specs.Levels.{followed}
use Rattle.pl_eval_laws.proofs.Lists.{Has}
use Rattle.pl_eval_laws.proofs.Trees.{Asked as Wanted, PairFrom}
use Rattle.pl_origins.proofs.Called.{Borders, OpensFrom}
use Rattle.pl_origins.proofs.Contents.{ProgressFrom}
use Rattle.pl_origins.proofs.Frames.{ParameterFrom}
use Rattle.pl_origins.proofs.Kept.{any_ok, NoFiles, plainly}
use Rattle.pl_origins.proofs.Nodes.{Site, NodeIn, PairIn, BodyIn, node_in, under_in}
use Rattle.pl_origins.proofs.Steps.{Used, ok_then, any_then}
use Rattle.pl_expand.specs.Below.pl_extends.specs.declared.rooting.RootFilling.{RootFilling}
use Rattle.pl_expand.specs.declared.root.RootNode.{RootNode}
use Rattle.pl_expand.specs.declared.root.RootTree.{RootTree}
use Rattle.pl_expand.specs.Below.pl_root.specs.Resources.{earliest}
use Rattle.pl_expand.specs.Tree.{Set, unless}
use Rattle.pl_expand.specs.Below.pl_root.specs.Keys.{root_complaints}
use Rattle.pl_expand.specs.Below.pl_root.specs.Arguments.{parameters_by}
use Rattle.pl_expand.specs.Below.pl_root.specs.Frames.{first_frame}
use Rattle.pl_expand.specs.Tree.{root_from}
use Rattle.pl_expand.specs.Tree.{root_mapping, pairs_expanded, home_of, bare_home, mapping_expanded}
use Rattle.pl_expand.specs.Tree.{bare_expanded, other_expanded, body_expanded_by, root_node}
use Rattle.pl_expand.specs.Tree.{tree_of}
use Rattle.pl_provenance.specs.Roots.{jobs_of}
use Rattle.pl_provenance.proofs.Extended.{ExtendsBorder, ExtensionFrom}
use Rattle.pl_provenance.proofs.Rooted.{RootBorder, ArgumentIn, parameters_are, root_by}
use Rattle.pl_provenance.proofs.Rooted.{pairs_expanded_give}

then_used :
    {A B : Type 0} (Q : A → Type 0) (S : B → Type 0) (step : Used A)
    (next : A → List FileKey → Result B ExpandFault) → IfOk step (λ both. Q both.0) →
    ((x : A) (used : List FileKey) → Q x → IfOk (next x used) S) → IfOk (step >>> next) S
then_used Q S (Ok both) next holds goes = goes both.0 both.1 holds
then_used Q S (Err fault) next holds goes = tt

pub unless_kept :
    {X : Type 0} (Q : X → Type 0) (first : Option Complaint) (x : X) → Q x →
    IfOk (unless first x) Q
unless_kept Q None x holds = holds
unless_kept Q (Some complaint) x holds = tt

module _ (P : Wanted) (T : FileKey → Wanted) (R : FileKey → Site)
    (K : Place → List ℕ → FileKey → Type 0) (border : ExtendsBorder P T R K)
    (inside : (file : FileKey) → Borders (T file) R K) (outside : Borders P R K) (files : Set)
    (opening : (home : Home) → OpensFrom R K NoFiles (opens_of files home)) (root : FileKey)
    (A : RunArgument → Place → Type 0) (own : RootBorder P (R root) A) where
  abbrev NodeFrom : RootNode → Type 0
  NodeFrom one =
      (file : FileKey) → one.extends ≡ Some file → Each (PairFrom (T file) (T file))
      (jobs_of one.node)

  abbrev pub TreeFrom : RootTree → Type 0
  TreeFrom one =
      (file : FileKey) → one.expanded.extends ≡ Some file →
      Each (PairFrom (T file) (T file)) (jobs_of one.expanded.tree)

  finishes :
      (opens : Opens) → OpensFrom R K NoFiles opens → (origin : Origin) (filling : RootFilling) →
      P.own origin →
      ProgressFrom P (R root) filling.progress × Has (ExtensionFrom T) filling.extension →
      IfOk (root_from origin filling) NodeFrom
  finishes opens opening origin filling is all =
      root_by P T R K NoFiles border inside outside opens opening root origin filling.progress
      filling.extension all.1

  mapping_from :
      (place : Place) (pairs : List NodePair) (arguments : List RunArgument) → (R root).at place →
      Each (ArgumentIn A) arguments → Each (PairIn (R root)) pairs →
      IfOk (mapping_expanded files root place pairs arguments) TreeFrom
  mapping_from place pairs arguments here given_in within =
      ok_then (Each (PairIn (R root))) TreeFrom
      (unless (earliest (root_complaints pairs)) pairs) _
      (unless_kept (Each (PairIn (R root))) (earliest (root_complaints pairs)) pairs within)
      (λ pairs within. ok_then (Each (ParameterFrom P (R root))) TreeFrom
      (parameters_by (under (codes "parameters") pairs) arguments) _
      (parameters_are P (R root) A own (under (codes "parameters") pairs) arguments given_in
      (under_in (R root) (codes "parameters") pairs within))
      (λ parameters are. then_used NodeFrom TreeFrom
      (pairs_expanded (root_mapping root place pairs parameters)
      (opens_of files (home_of root pairs))) _
      (plainly NodeFrom (Unit {0}) []
      (pairs_expanded (root_mapping root place pairs parameters)
      (opens_of files (home_of root pairs))) tt
      (pairs_expanded_give P T R K NoFiles border inside outside
      (opens_of files (home_of root pairs)) (opening (home_of root pairs)) root A own
      NodeFrom (finishes (opens_of files (home_of root pairs)) (opening (home_of root pairs)))
      place pairs parameters here within are))
      (λ one used from. from)))

  no_file : {X : Type 0} (file : FileKey) → ◌≡◌ {A = Option FileKey} None (Some file) → X
  no_file file none = absurd (cc)

  bare_from : (node : Node) (frame : Frame) → IfOk (bare_expanded files root node frame) TreeFrom
  bare_from node frame =
      then_used (λ one. Unit {0}) TreeFrom
      (expanded node (scope_of (followed 100 (opens_of files (bare_home root))) frame Free) 0 []) _
      (any_ok (λ both. Unit {0}) (λ both. tt)
      (expanded node (scope_of (followed 100 (opens_of files (bare_home root))) frame Free) 0 []))
      (λ one used is file extends. no_file file extends)

  other_from : (node : Node) (arguments : List RunArgument) →
      IfOk (other_expanded files root node arguments) TreeFrom
  other_from node arguments =
      any_then TreeFrom (parameters_by None arguments) _
      (λ parameters. bare_from node (first_frame root parameters))

  body_from :
      (body : Body) (node : Node) (arguments : List RunArgument) → (R root).at node.place →
      Each (ArgumentIn A) arguments → BodyIn (R root) body →
      IfOk (body_expanded_by body files root node arguments) TreeFrom
  body_from (Map pairs) node arguments here given_in within =
      mapping_from node.place pairs arguments here given_in within
  body_from (Scalar text) node arguments here given_in within = other_from node arguments
  body_from (Seq items) node arguments here given_in within = other_from node arguments

  pub tree_jobs :
      (arguments : List RunArgument) → Each (ArgumentIn A) arguments →
      IfOk (root_node root (finite.get files root)) (NodeIn (R root)) →
      IfOk (tree_of files root arguments) TreeFrom
  tree_jobs arguments given_in stands =
      ok_then (NodeIn (R root)) TreeFrom (root_node root (finite.get files root)) _ stands
      (λ node within. body_from (body_of node) node arguments (node_in (R root) node within).0
      given_in (node_in (R root) node within).1)
