-- The expansion of a root file with its run arguments (Microsoft Learn, Azure Pipelines, "YAML
-- schema reference", pipeline, and "Templates").
use Rattle.std.specs.Prelude.{ℕ, Bool, not, List, [], ◌∷◌, filter}
use Rattle.std.specs.Prelude.{codes}
use Rattle.std.specs.Prelude.{Option, Some, None, Result, Ok, Err}
use Rattle.std.specs.Option.{option_map}
use Rattle.std.specs.FinMap as finite
use Rattle.std.specs.List.{list_any}
use Rattle.pl_base.specs.Files.{file_cmp}
use Rattle.pl_base.specs.Places.{place_at}
use Rattle.pl_base.specs.declared.expanded.Argument.{Argument}
use Rattle.pl_base.specs.declared.expanded.Expanded.{Expanded}
use Rattle.pl_base.specs.declared.node.Node.{Node}
use Rattle.pl_base.specs.declared.node.NodeBody.TheOpen.{Map}
use Rattle.pl_base.specs.declared.node.NodePair.{NodePair}
use Rattle.pl_base.specs.declared.origin.Origin.{Origin}
use Rattle.pl_base.specs.declared.place.FileKey.{FileKey}
use Rattle.pl_base.specs.declared.place.Place.{Place}
use Rattle.pl_base.specs.declared.value.Value.{Object}
use Rattle.pl_base.specs.declared.value.MarkedNode.{MarkedNode}
use Rattle.pl_base.specs.declared.value.MarkedPair.{MarkedPair}
use Rattle.pl_eval.specs.LookUps.{made}
use Rattle.pl_frame.specs.Doubles.{first_double}
use Rattle.pl_frame.specs.Origins.{literal_at}
use Rattle.pl_frame.specs.declared.frame.Frame.{Frame}
use Rattle.pl_frame.specs.declared.frame.Parameter.{Parameter}
use Rattle.pl_base.specs.Texts.{is}
use Rattle.pl_directives.specs.declared.fault.Complaint.{Complaint}
use Rattle.pl_directives.specs.declared.fault.ExpandFault.{ExpandFault}
use Rattle.pl_directives.specs.declared.fault.ExpandFault.TheVariants.{Refused}
use Rattle.pl_directives.specs.declared.fault.ExpandProblem.TheVariants.{FileMissing, WrongKind}
use Rattle.pl_directives.specs.declared.fault.ExpandProblem.TheVariants.{KeyTwice}
use Rattle.pl_calls.specs.declared.files.Parsed.{Parsed}
use Rattle.pl_calls.specs.declared.reaching.Home.{Home}
use Rattle.pl_directives.specs.declared.manner.Kind.TheVariants as content
use Rattle.pl_directives.specs.declared.progress.Chain.TheVariants.{Closed}
use Rattle.pl_directives.specs.declared.progress.Content.{Content}
use Rattle.pl_directives.specs.declared.progress.Content.TheVariants.{Pairs}
use Rattle.pl_directives.specs.declared.progress.Progress.{Progress}
use Rattle.pl_directives.specs.declared.region.Form.TheVariants.{Variables as InVariables}
use Rattle.pl_directives.specs.declared.region.Region.TheVariants.{Free, Calls}
use Rattle.pl_expand.specs.declared.root.RootTree.{RootTree}
use Rattle.pl_expand.specs.declared.root.RootNode.{RootNode}
use Rattle.pl_extends.specs.declared.extending.Extension.{Extension}
use Rattle.pl_extends.specs.declared.rooting.RootFilling.{RootFilling}
use Rattle.pl_expand.specs.declared.filling.Early.{Early}
use Rattle.pl_root.specs.declared.root_key.RootKey.{RootKey}
use Rattle.pl_root.specs.declared.root_key.RootKey.TheVariants.{Parameters, Resources, Extends}
use Rattle.pl_root.specs.declared.root_key.RootKey.TheVariants.{Variables, Other}
use Rattle.pl_directives.specs.Complaints.{refused}
use Rattle.pl_directives.specs.Contents.{begun, put_pair}
use Rattle.pl_directives.specs.Counting.{entered}
use Rattle.pl_calls.specs.Judging.{unless_at}
use Rattle.pl_calls.specs.Meant.{◌>>>◌, alone}
use Rattle.pl_calls.specs.Parts.{Body, body_of}
use Rattle.pl_params.specs.Nodes.{under}
use Rattle.pl_calls.specs.Reaching.{Opens, node_in, opens, same_file}
use Rattle.pl_recursion.specs.Expanding.{expanded}
use Rattle.pl_recursion.specs.Following.{Follow, scope_of}
use Rattle.pl_recursion.specs.Levels.{followed}
use Rattle.pl_expand.specs.Merging.{merged}
use Rattle.pl_extends.specs.Rooting.{filled_with, Rooting, chained, pair_seen}
use Rattle.pl_root.specs.Resources.{earliest}
use Rattle.pl_reading.specs.Steps.{◌>>=◌}
use Rattle.pl_root.specs.Keys.{repositories_of, root_complaints, root_key}
use Rattle.pl_root.specs.Arguments.{parameters_by}
use Rattle.pl_root.specs.Frames.{first_frame, second_frame}

-- ---- the root file

abbrev pub root_node : FileKey → Option Parsed → Result Node ExpandFault
root_node root None = refused FileMissing (place_at root 1 1)
root_node root (Some file) = node_in file

abbrev pub unless : {X : Type 0} → Option Complaint → X → Result X ExpandFault
unless None value = Ok value
unless (Some first) value = Err (Refused first)

-- ---- its variables, which are expanded before all else

abbrev pub early_by :
    Option Node → Follow → Frame → ℕ → List FileKey → Result (Early × List FileKey) ExpandFault
early_by None follow frame count used = Ok (record { node = None; count = count }, used)
early_by (Some node) follow frame count used =
    expanded node (scope_of follow frame (Calls InVariables)) count used >>> λ one used.
    Ok (record { node = Some one.node; count = one.count }, used)

-- ---- its pairs

-- its variables under their key
abbrev pub put_variables :
    MarkedNode → NodePair → Frame → Progress → Result Progress ExpandFault
put_variables node pair frame progress =
    put_pair
    (record { key = pair.key; key_origin = literal_at frame pair.key_place; item = node })
    progress.count progress

-- A pair that gives nothing ends a chain of branches.
abbrev pub passed_over : RootFilling → RootFilling
passed_over filling = chained Closed filling

abbrev pub variables_pair :
    MarkedNode → NodePair → Frame → RootFilling → Result RootFilling ExpandFault
variables_pair node pair frame filling =
    put_variables node pair frame filling.progress >>= λ after.
    Ok (filled_with filling.extension after)

-- The pair of `variables` has the value that was expanded early, and any other pair is put after
-- directives.
abbrev pub root_pair : RootKey → Option MarkedNode → NodePair → Rooting
root_pair Parameters early pair opens frame filling used = Ok (passed_over filling, used)
root_pair Resources early pair opens frame filling used = Ok (passed_over filling, used)
root_pair Variables (Some node) pair opens frame filling used =
    alone (variables_pair node pair frame filling) used
root_pair Variables None pair opens frame filling used =
    (pair_seen pair).put opens frame filling used
root_pair Extends early pair opens frame filling used =
    (pair_seen pair).put opens frame filling used
root_pair Other early pair opens frame filling used =
    (pair_seen pair).put opens frame filling used

-- the early value goes to the first key `variables`
abbrev pub given_to : RootKey → Option MarkedNode → Option MarkedNode
given_to Variables early = early
given_to key early = None

abbrev pub early_behind : RootKey → Option MarkedNode → Option MarkedNode
early_behind Variables early = None
early_behind key early = early

abbrev pub root_pairs : Option MarkedNode → List NodePair → Rooting
root_pairs early [] opens frame filling used = Ok (filling, used)
root_pairs early (pair ∷ pairs) opens frame filling used =
    root_pair (root_key pair.key) (given_to (root_key pair.key) early) pair opens frame filling
    used >>>
    root_pairs (early_behind (root_key pair.key) early) pairs opens frame

-- the keys of a file that never stand in the tree, wherever they came from
abbrev pub stands : MarkedPair → Bool
stands pair =
    not (list_any (is pair.key) (codes "parameters" ∷ codes "resources" ∷ codes "extends" ∷ []))

-- its own, of which no key stands twice, and those of the template that it extends
abbrev pub object_pairs :
    Option Extension → List MarkedPair → Result (List MarkedPair) ExpandFault
object_pairs extension pairs =
    unless_at {X = Unit {0}} KeyTwice (first_double pairs) tt >>= λ none.
    merged extension (filter stands pairs)

abbrev pub root_object :
    Option Extension → Origin → Content → Result MarkedNode ExpandFault
root_object extension origin (Pairs pairs) =
    object_pairs extension pairs >>= λ all. Ok (made origin (Object all))
root_object extension origin other = refused WrongKind origin.source

-- ---- the whole

-- the root is reached first
abbrev pub used_files : FileKey → List FileKey → List FileKey
used_files root used = root ∷ filter (λ key. not (same_file key root)) used

abbrev pub file_of : Extension → FileKey
file_of extension = extension.file

abbrev pub whole : Home → RootNode → List FileKey → RootTree
whole home one used = record {
  expanded = record {
    tree = one.node;
    root = home.root;
    extends = one.extends;
    repositories = home.repositories;
    used = used_files home.root used;
  };
  count = one.count;
}

-- the pairs of the root's mapping, once its variables were expanded
abbrev pub root_from : Origin → RootFilling → Result RootNode ExpandFault
root_from origin filling =
    root_object filling.extension origin filling.progress.content >>= λ node.
    Ok (record {
      node = node;
      extends = option_map file_of filling.extension;
      count = filling.progress.count;
    })

abbrev pub filled_in :
    Place → List NodePair → Frame → Opens → Early → List FileKey →
    Result (RootNode × List FileKey) ExpandFault
filled_in place pairs frame opens early used =
    root_pairs early.node pairs opens frame
    (filled_with None (begun content.Pairs Closed early.count)) used >>> λ filling used.
    alone (root_from (literal_at frame place) filling) used

-- A root file's mapping: the file, where the mapping stands, its pairs, and what is bound to the
-- parameters that it declares.
pub record RootMapping : Type 0 where
  pub file : FileKey
  pub place : Place
  pub pairs : List NodePair
  pub parameters : List Parameter

abbrev pub root_mapping :
    FileKey → Place → List NodePair → List Parameter → RootMapping
root_mapping file place pairs parameters =
    record { file = file; place = place; pairs = pairs; parameters = parameters }

abbrev pub filled_root :
    RootMapping → Opens → Early → List FileKey → Result (RootNode × List FileKey) ExpandFault
filled_root root opens early used =
    filled_in root.place root.pairs (second_frame root.file root.parameters early.node) opens early
    used

abbrev pub pairs_expanded :
    RootMapping → Opens → Result (RootNode × List FileKey) ExpandFault
pairs_expanded root opens =
    entered root.place 0 >>= λ count.
    early_by (under (codes "variables") root.pairs) (followed 100 opens)
    (first_frame root.file root.parameters) count [] >>>
    filled_root root opens

abbrev pub Set : Type 0
Set = finite.FinMap file_cmp Parsed

abbrev pub home_of : FileKey → List NodePair → Home
home_of root pairs =
    record { root = root; repositories = repositories_of (under (codes "resources") pairs) }

abbrev pub mapping_expanded :
    Set → FileKey → Place → List NodePair → List Argument → Result RootTree ExpandFault
mapping_expanded files root place pairs arguments =
    unless (earliest (root_complaints pairs)) pairs >>= λ pairs.
    parameters_by (under (codes "parameters") pairs) arguments >>= λ parameters.
    pairs_expanded (root_mapping root place pairs parameters)
    (opens files (home_of root pairs)) >>> λ one used. Ok (whole (home_of root pairs) one used)

-- A root that is no mapping declares nothing, and its schema is judged later. 100 levels of
-- templates may be called from the root.
abbrev pub bare_home : FileKey → Home
bare_home root = record { root = root; repositories = [] }

abbrev pub bare_expanded : Set → FileKey → Node → Frame → Result RootTree ExpandFault
bare_expanded files root node frame =
    expanded node (scope_of (followed 100 (opens files (bare_home root))) frame Free) 0 [] >>>
    λ one used.
    Ok (whole (bare_home root) (record { node = one.node; extends = None; count = one.count }) used)

abbrev pub other_expanded : Set → FileKey → Node → List Argument → Result RootTree ExpandFault
other_expanded files root node arguments =
    parameters_by None arguments >>= λ parameters.
    bare_expanded files root node (first_frame root parameters)

abbrev pub body_expanded_by :
    Body → Set → FileKey → Node → List Argument → Result RootTree ExpandFault
body_expanded_by (Map pairs) files root node arguments =
    mapping_expanded files root node.place pairs arguments
body_expanded_by other files root node arguments = other_expanded files root node arguments

abbrev pub body_expanded : Set → FileKey → Node → List Argument → Result RootTree ExpandFault
body_expanded files root node arguments =
    body_expanded_by (body_of node) files root node arguments

abbrev pub file_expanded :
    Set → FileKey → Option Parsed → List Argument → Result RootTree ExpandFault
file_expanded files root file arguments =
    root_node root file >>= λ node. body_expanded files root node arguments

-- what files, a root and run arguments expand to, with the count
abbrev pub tree_of : Set → FileKey → List Argument → Result RootTree ExpandFault
tree_of files root arguments = file_expanded files root (finite.get files root) arguments

-- the same without the count
abbrev pub expansion : Set → FileKey → List Argument → Result Expanded ExpandFault
expansion files root arguments = tree_of files root arguments >>= λ whole. Ok whole.expanded
