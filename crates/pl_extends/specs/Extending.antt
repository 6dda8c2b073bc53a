-- `extends` of the root file (Microsoft Learn, Azure Pipelines, "YAML schema reference", extends,
-- and "Templates": extend from a template). It is read after directives, like every other key.
use Rattle.std.specs.Prelude.{ℕ, Bool, true, false, List, [], ◌∷◌}
use Rattle.std.specs.Prelude.{find, codes}
use Rattle.std.specs.Prelude.{Option, Some, None, Result, Ok, if◌then◌else◌}
use Rattle.std.specs.Option.{option_map}
use Rattle.std.specs.List.{list_any, list_all}
use Rattle.pl_base.specs.declared.node.Node.{Node}
use Rattle.pl_base.specs.declared.node.NodeBody.TheOpen.{Scalar, Seq, Map}
use Rattle.pl_base.specs.declared.node.NodePair.{NodePair}
use Rattle.pl_base.specs.declared.origin.Crossing.{Crossing}
use Rattle.pl_base.specs.declared.origin.Crossing.TheVariants.{Extends}
use Rattle.pl_base.specs.declared.origin.Origin.{Origin}
use Rattle.pl_base.specs.declared.place.FileKey.{FileKey}
use Rattle.pl_base.specs.declared.place.Place.{Place}
use Rattle.pl_base.specs.declared.value.Value.{Value, out-Value}
use Rattle.pl_base.specs.declared.value.Value.TheOpen.{Value-F}
use Rattle.pl_base.specs.declared.value.Value.TheOpen as layer
use Rattle.pl_base.specs.declared.value.MarkedNode.{MarkedNode}
use Rattle.pl_base.specs.declared.value.MarkedPair.{MarkedPair}
use Rattle.pl_frame.specs.Doubles.{first_double}
use Rattle.pl_frame.specs.declared.frame.Frame.{Frame}
use Rattle.pl_base.specs.Texts.{is}
use Rattle.pl_template.specs.Forms.{form_of}
use Rattle.pl_template.specs.Keys.{key_form_of}
use Rattle.pl_template.specs.declared.forms.KeyForm.{KeyForm}
use Rattle.pl_template.specs.declared.forms.KeyForm.TheVariants.{Plain}
use Rattle.pl_directives.specs.declared.fault.ExpandFault.{ExpandFault}
use Rattle.pl_directives.specs.declared.fault.ExpandProblem.TheVariants.{WrongKind, KeyTwice}
use Rattle.pl_directives.specs.declared.manner.Kind.TheVariants as content
use Rattle.pl_directives.specs.declared.progress.Chain.TheVariants.{Closed}
use Rattle.pl_directives.specs.declared.progress.Content.{Content}
use Rattle.pl_directives.specs.declared.progress.Content.TheVariants.{Pairs}
use Rattle.pl_directives.specs.declared.progress.Counted.{Counted}
use Rattle.pl_directives.specs.declared.progress.Progress.{Progress}
use Rattle.pl_directives.specs.declared.region.Region.TheVariants.{Free, Quiet}
use Rattle.pl_directives.specs.declared.region.Region.TheVariants.{Extends as InExtends}
use Rattle.pl_directives.specs.Complaints.{refused}
use Rattle.pl_directives.specs.Contents.{begun}
use Rattle.pl_directives.specs.Counting.{entered}
use Rattle.pl_directives.specs.Scalars.{scalar_value}
use Rattle.pl_reading.specs.Steps.{◌>>=◌}
use Rattle.pl_calls.specs.Calls.{path_text, pairs_from, arguments_at}
use Rattle.pl_calls.specs.Frames.{template_of, framed_by}
use Rattle.pl_calls.specs.Judging.{unless_at, stray, held, template_in, may_give}
use Rattle.pl_calls.specs.Meant.{◌>>>◌, alone}
use Rattle.pl_calls.specs.Parts.{Body, body_of}
use Rattle.pl_params.specs.Nodes.{under}
use Rattle.pl_calls.specs.Reaching.{Opens, node_in}
use Rattle.pl_calls.specs.declared.reaching.Opened.{Opened}
use Rattle.pl_recursion.specs.Expanding.{Filling, part_of, entry_of, expanded, path_by}
use Rattle.pl_recursion.specs.Expanding.{pair_behind}
use Rattle.pl_recursion.specs.Following.{Follow, Scope, scope_of}
use Rattle.pl_recursion.specs.Levels.{followed}
use Rattle.pl_recursion.specs.declared.followed.SettledPairs.{SettledPairs}
use Rattle.pl_extends.specs.declared.extending.Extension.{Extension}

-- ---- What `extends` asks for: where its mapping stands, the path's text, the origin that shows
-- where that comes from, and the arguments.

pub record Asked : Type 0 where
  pub at : Place
  pub path : List ℕ
  pub shown : Origin
  pub arguments : List MarkedPair

abbrev pub asking : Place → List ℕ → Origin → List MarkedPair → Asked
asking at path shown arguments =
    record { at = at; path = path; shown = shown; arguments = arguments }

-- The path's origin shows what an argument or an expression gave, else that of the key `extends`.
abbrev pub shown_by : List Crossing → Origin → Origin → Origin
shown_by [] key path = key
shown_by (crossing ∷ crossings) key path = path

abbrev pub shown : Origin → Origin → Origin
shown key path = shown_by path.crossings key path

-- ---- the path first, wherever its key stands

abbrev pub path_in : List NodePair → Place → Frame → ℕ → Result Counted ExpandFault
path_in pairs place frame count =
    held place (under (codes "template") pairs) >>= λ path.
    path_by (part_of path).shape (part_of path).place frame count

-- ---- then the arguments: beside the path stands `parameters` alone, as it is written

abbrev pub mapping_from : Counted → Result SettledPairs ExpandFault
mapping_from one =
    pairs_from (out-Value one.node.value) one.node >>= λ pairs.
    Ok (record { pairs = pairs; count = one.count })

abbrev pub value_from :
    Node → Follow → Frame → ℕ → List FileKey → Result (SettledPairs × List FileKey) ExpandFault
value_from node follow frame count used =
    expanded node (scope_of follow frame Quiet) count used >>> λ one used.
    alone (mapping_from one) used

abbrev pub argument_behind :
    NodePair → Follow → Frame → SettledPairs → List FileKey →
    Result (SettledPairs × List FileKey) ExpandFault
argument_behind pair follow frame before used =
    if is pair.key (codes "template") then Ok (before, used)
    else if is pair.key (codes "parameters")
    then value_from pair.item follow frame before.count used
    else refused WrongKind pair.key_place

abbrev pub arguments_behind :
    List NodePair → Follow → Frame → SettledPairs → List FileKey →
    Result (SettledPairs × List FileKey) ExpandFault
arguments_behind [] follow frame before used = Ok (before, used)
arguments_behind (pair ∷ pairs) follow frame before used =
    argument_behind pair follow frame before used >>> arguments_behind pairs follow frame

-- ---- what may stand in a template that is extended

abbrev pub may_extend : List ℕ → Bool
may_extend key =
    list_any (is key)
    (codes "parameters" ∷ codes "stages" ∷ codes "jobs" ∷ codes "steps" ∷ codes "variables"
    ∷ codes "pool" ∷ codes "lockBehavior" ∷ [])

abbrev pub extended_pairs : Node → Result (List NodePair) ExpandFault
extended_pairs node =
    template_in node >>= λ pairs. unless_at WrongKind (stray may_extend pairs) pairs

-- its pairs but the declarations
abbrev pub body_pair : NodePair → Filling
body_pair pair scope progress used =
    if is pair.key (codes "parameters") then Ok (progress, used)
    else pair_behind (entry_of pair) scope progress used

abbrev pub body_pairs : List NodePair → Filling
body_pairs [] scope progress used = Ok (progress, used)
body_pairs (pair ∷ pairs) scope progress used =
    body_pair pair scope progress used >>> body_pairs pairs scope

abbrev pub pairs_there : Content → List MarkedPair
pairs_there (Pairs pairs) = pairs
pairs_there other = []

-- no key of them stands twice
abbrev pub extension_of : FileKey → Progress → Result Extension ExpandFault
extension_of file after =
    unless_at {X = Unit {0}} KeyTwice (first_double (pairs_there after.content)) tt >>= λ none.
    Ok (record { file = file; pairs = pairs_there after.content; count = after.count })

-- ---- an extension, in the order of a call

-- the body, in its scope
abbrev pub body_filled :
    FileKey → Place → List NodePair → Scope → ℕ → List FileKey →
    Result (Extension × List FileKey) ExpandFault
body_filled file place pairs scope count used =
    entered place count >>= λ count.
    body_pairs pairs scope (begun content.Pairs Closed count) used >>> λ after used.
    alone (extension_of file after) used

-- from the file on
abbrev pub opened_filled :
    Opened → Origin → List MarkedPair → Follow → Frame → ℕ → List FileKey →
    Result (Extension × List FileKey) ExpandFault
opened_filled opened shown arguments follow frame count used =
    node_in opened.file >>= λ node.
    extended_pairs node >>= λ pairs.
    framed_by (template_of opened.key pairs) frame.variables arguments (Extends opened.key)
    shown.crossings >>= λ inner.
    body_filled opened.key node.place pairs (scope_of follow inner Free) count used

-- from the path and the arguments on
abbrev pub reached_filled :
    Opens → Asked → Frame → ℕ → List FileKey → Result (Extension × List FileKey) ExpandFault
reached_filled opens asked frame count used =
    opens asked.at asked.path used >>> λ opened used.
    opened_filled opened asked.shown asked.arguments (followed 99 opens) frame count used

-- ---- its mapping as it is written, without directives and computed keys

abbrev pub mapping_extended :
    Opens → Origin → Place → List NodePair → Frame → ℕ → List FileKey →
    Result (Extension × List FileKey) ExpandFault
mapping_extended opens key place pairs frame count used =
    entered place count >>= λ count.
    path_in pairs place frame count >>= λ path.
    path_text path.node >>= λ text.
    arguments_behind pairs (followed 100 opens) frame (record { pairs = []; count = path.count })
    used >>> λ arguments used.
    reached_filled opens (asking place text (shown key path.node.origin) arguments.pairs) frame
    arguments.count used

-- ---- a mapping that came of directives, computed keys or an expression: its path first

abbrev pub item_under : List ℕ → List MarkedPair → Option MarkedNode
item_under key pairs = option_map (λ pair. pair.item) (find (λ pair. is pair.key key) pairs)

abbrev pub argument_given : List MarkedPair → MarkedPair → Result (List MarkedPair) ExpandFault
argument_given found pair =
    if is pair.key (codes "template") then Ok found else arguments_at pair

abbrev pub arguments_given :
    List MarkedPair → List MarkedPair → Result (List MarkedPair) ExpandFault
arguments_given found [] = Ok found
arguments_given found (pair ∷ pairs) =
    argument_given found pair >>= λ found. arguments_given found pairs

abbrev pub path_given : Place → Option MarkedNode → Result MarkedNode ExpandFault
path_given at None = refused WrongKind at
path_given at (Some path) = Ok path

abbrev pub pairs_asked : Origin → Place → List MarkedPair → Result Asked ExpandFault
pairs_asked key at pairs =
    path_given at (item_under (codes "template") pairs) >>= λ path.
    path_text path >>= λ text.
    arguments_given [] pairs >>= λ arguments.
    Ok (asking at text (shown key path.origin) arguments)

abbrev pub given_extended :
    Opens → Origin → Place → List MarkedPair → Frame → ℕ → List FileKey →
    Result (Extension × List FileKey) ExpandFault
given_extended opens key at pairs frame count used =
    pairs_asked key at pairs >>= λ asked. reached_filled opens asked frame count used

-- a list, a text or another atom is none, which is told at a place
abbrev pub extended_from :
    Value-F Value MarkedNode MarkedPair → Opens → Origin → Place → Place → Frame → ℕ →
    List FileKey → Result (Extension × List FileKey) ExpandFault
extended_from (layer.Object pairs) opens key at place frame count used =
    given_extended opens key at pairs frame count used
extended_from other opens key at place frame count used = refused WrongKind place

abbrev pub value_extended :
    Opens → Origin → Place → MarkedNode → Frame → ℕ → List FileKey →
    Result (Extension × List FileKey) ExpandFault
value_extended opens key place node frame count used =
    extended_from (out-Value node.value) opens key node.origin.source place frame count used

-- ---- the value of the key `extends`, as it is written

abbrev pub is_plain : KeyForm → Bool
is_plain Plain = true
is_plain other = false

abbrev pub are_plain : List NodePair → Bool
are_plain pairs = list_all (λ pair. is_plain (key_form_of pair.key)) pairs

abbrev pub pairs_extended :
    Bool → Opens → Origin → Node → List NodePair → Frame → ℕ → List FileKey →
    Result (Extension × List FileKey) ExpandFault
pairs_extended true opens key node pairs frame count used =
    mapping_extended opens key node.place pairs frame count used
pairs_extended false opens key node pairs frame count used =
    expanded node (scope_of (followed 100 opens) frame InExtends) count used >>> λ one used.
    value_extended opens key node.place one.node frame one.count used

-- a text may be one expression, and nothing else
abbrev pub text_extended :
    Bool → Opens → Origin → Place → List ℕ → Frame → ℕ → List FileKey →
    Result (Extension × List FileKey) ExpandFault
text_extended true opens key place text frame count used =
    scalar_value text frame place count >>= λ one.
    value_extended opens key place one.node frame one.count used
text_extended false opens key place text frame count used = refused WrongKind place

abbrev pub extended_by :
    Body → Opens → Origin → Node → Frame → ℕ → List FileKey →
    Result (Extension × List FileKey) ExpandFault
extended_by (Map pairs) opens key node frame count used =
    pairs_extended (are_plain pairs) opens key node pairs frame count used
extended_by (Scalar text) opens key node frame count used =
    text_extended (may_give (form_of text)) opens key node.place text frame count used
extended_by (Seq items) opens key node frame count used = refused WrongKind node.place

-- beside the value the key's origin is known
abbrev pub extended :
    Opens → Origin → Node → Frame → ℕ → List FileKey →
    Result (Extension × List FileKey) ExpandFault
extended opens key node frame count used =
    extended_by (body_of node) opens key node frame count used
