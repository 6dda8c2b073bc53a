-- A call that is followed (Microsoft Learn, Azure Pipelines, "Templates"), in the order in which it
-- is judged.
use Rattle.std.specs.Prelude.{ℕ, zero, suc, List, [], ◌∷◌, map, codes}
use Rattle.std.specs.Prelude.{Option, Some, None, Result, Ok}
use Rattle.pl_base.specs.declared.node.Node.{Node}
use Rattle.pl_base.specs.declared.node.NodePair.{NodePair}
use Rattle.pl_base.specs.declared.origin.Crossing.{Crossing}
use Rattle.pl_base.specs.declared.origin.Crossing.TheVariants.{Include}
use Rattle.pl_base.specs.declared.place.FileKey.{FileKey}
use Rattle.pl_base.specs.declared.place.Place.{Place}
use Rattle.pl_base.specs.declared.value.Value.{Value, Str, Object, out-Value}
use Rattle.pl_base.specs.declared.value.Value.TheOpen.{Value-F}
use Rattle.pl_base.specs.declared.value.Value.TheOpen as layer
use Rattle.pl_base.specs.declared.value.MarkedNode.{MarkedNode}
use Rattle.pl_base.specs.declared.value.MarkedPair.{MarkedPair}
use Rattle.pl_eval.specs.LookUps.{made}
use Rattle.pl_frame.specs.Names.{named}
use Rattle.pl_frame.specs.declared.frame.Frame.{Frame}
use Rattle.pl_directives.specs.declared.fault.ExpandFault.{ExpandFault}
use Rattle.pl_directives.specs.declared.fault.ExpandProblem.TheVariants.{NestedTooDeep, WrongKind}
use Rattle.pl_directives.specs.declared.progress.Counted.{Counted}
use Rattle.pl_directives.specs.declared.region.Form.{Form}
use Rattle.pl_directives.specs.declared.region.Form.TheVariants.{Variables}
use Rattle.pl_directives.specs.declared.region.Region.TheVariants.{Calls as InCalls}
use Rattle.pl_directives.specs.Complaints.{refused}
use Rattle.pl_directives.specs.Counting.{entered}
use Rattle.pl_reading.specs.Steps.{◌>>=◌}
use Rattle.pl_calls.specs.Calls.{Called, call_of}
use Rattle.pl_calls.specs.Frames.{template_of, framed_by}
use Rattle.pl_calls.specs.Judging.{template_in, body_in, body_fits}
use Rattle.pl_calls.specs.Meant.{◌>>>◌, alone}
use Rattle.pl_calls.specs.Reaching.{Opens, node_in}
use Rattle.pl_calls.specs.declared.reaching.Opened.{Opened}
use Rattle.pl_recursion.specs.Expanding.{expanded}
use Rattle.pl_recursion.specs.Following.{Follow, Scope, scope_of}
use Rattle.pl_recursion.specs.declared.followed.Followed.{Followed}

-- ---- what a template's form gives in the place of the call's item

-- A mapping of variables gives an item for each pair, with its name and its value: they come from
-- where the pair's key does, and the value keeps where it comes from.
abbrev pub variable_item : MarkedPair → MarkedNode
variable_item pair =
    made pair.key_origin (Object (
    named pair.key_origin (codes "name") (made pair.key_origin (Str pair.key))
    ∷ named pair.key_origin (codes "value") pair.item
    ∷ []))

abbrev pub items_of :
    Form → Value-F Value MarkedNode MarkedPair → Place → Result (List MarkedNode) ExpandFault
items_of form (layer.Array items) place = Ok items
items_of Variables (layer.Object pairs) place = Ok (map variable_item pairs)
items_of form other place = refused WrongKind place

abbrev pub items_from : Form → Place → Counted → Result Followed ExpandFault
items_from form place one =
    items_of form (out-Value one.node.value) place >>= λ items.
    Ok (record { items = items; count = one.count })

-- ---- its frame: the borders that the path crossed, and the one of this call

abbrev pub border : FileKey → Place → Crossing
border file at = Include file at

abbrev pub frame_for :
    FileKey → List NodePair → Called → Frame → Result Frame ExpandFault
frame_for file pairs call frame =
    framed_by (template_of file pairs) frame.variables call.arguments (border file call.at)
    call.crossings

-- ---- the call, in this order: the path's text and the arguments; one level more; the file; what
-- stands in it; its declarations and what is bound to them; its body

-- a call that is followed: the frame of its caller, the form of the list that its item is of, the
-- call itself, and the count before it
pub record Calling : Type 0 where
  pub frame : Frame
  pub form : Form
  pub call : Called
  pub count : ℕ

abbrev pub call_in : Frame → Form → Called → ℕ → Calling
call_in frame form call count =
    record { frame = frame; form = form; call = call; count = count }

-- the template's body in its scope
abbrev pub filled_in :
    Place → Node → Form → Scope → ℕ → List FileKey → Result (Followed × List FileKey) ExpandFault
filled_in place body form scope count used =
    entered place count >>= λ count.
    body_fits form body >>= λ none.
    expanded body scope count used >>> λ one used.
    alone (items_from form body.place one) used

-- the file, in which calls are followed so
abbrev pub found_in :
    Opened → Follow → Calling → List FileKey → Result (Followed × List FileKey) ExpandFault
found_in opened follow calling used =
    node_in opened.file >>= λ node.
    template_in node >>= λ pairs.
    body_in calling.form node.place pairs >>= λ body.
    frame_for opened.key pairs calling.call calling.frame >>= λ inner.
    filled_in node.place body calling.form (scope_of follow inner (InCalls calling.form))
    calling.count used

abbrev pub deeper : Option Follow → Place → Result Follow ExpandFault
deeper None at = refused NestedTooDeep at
deeper (Some follow) at = Ok follow

-- one level more, where one is left, and the file that the path leads to
abbrev pub reached :
    Option Follow → Opens → Calling → List FileKey → Result (Followed × List FileKey) ExpandFault
reached next opens calling used =
    deeper next calling.call.at >>= λ follow.
    opens calling.call.at calling.call.path used >>> λ opened used.
    found_in opened follow calling used

abbrev pub call_by : Option Follow → Opens → Follow
call_by next opens frame form item count used =
    call_of item >>= λ call. reached next opens (call_in frame form call count) used

-- with so many levels left below the caller: the root may be followed by 100
unfoldable pub followed : ℕ → Opens → Follow
followed zero opens = call_by None opens
followed (suc left) opens = call_by (Some (followed left opens)) opens

abbrev pub below : ℕ → Opens → Option Follow
below zero opens = None
below (suc left) opens = Some (followed left opens)
