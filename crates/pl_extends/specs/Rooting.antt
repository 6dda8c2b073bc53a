-- The pairs of the root file's mapping after directives (Microsoft Learn, Azure Pipelines,
-- "Template expressions"): the pairs that stand in the tree, and what the template gives that the
-- key `extends` leads to, wherever that key came from. What is met first is followed first.
use Rattle.std.specs.Prelude.{ℕ, Bool, true, false, List, [], ◌∷◌, map, codes}
use Rattle.std.specs.Prelude.{Option, Some, None, is_some, Result, Ok, if◌then◌else◌}
use Rattle.pl_base.specs.declared.node.Node.{Node, fold-Node}
use Rattle.pl_base.specs.declared.node.NodeBody.{NodeBody, fold-NodeBody}
use Rattle.pl_base.specs.declared.node.NodeBody as written
use Rattle.pl_base.specs.declared.node.NodePair.{NodePair, fold-NodePair}
use Rattle.pl_base.specs.declared.node.NodeBody.TheOpen.{NodeBody-F, Node-F, NodePair-F}
use Rattle.pl_base.specs.declared.node.NodeBody.TheOpen.{Scalar, Seq, Map}
use Rattle.pl_base.specs.declared.origin.Origin.{Origin}
use Rattle.pl_base.specs.declared.place.FileKey.{FileKey}
use Rattle.pl_base.specs.declared.place.Place.{Place}
use Rattle.pl_base.specs.declared.value.Value.{Value, out-Value}
use Rattle.pl_base.specs.declared.value.Value.TheOpen.{Value-F}
use Rattle.pl_base.specs.declared.value.Value.TheOpen as layer
use Rattle.pl_base.specs.declared.value.MarkedNode.{MarkedNode}
use Rattle.pl_base.specs.declared.value.MarkedPair.{MarkedPair}
use Rattle.pl_frame.specs.Names.{within}
use Rattle.pl_frame.specs.declared.frame.Frame.{Frame}
use Rattle.pl_base.specs.Texts.{is}
use Rattle.pl_directives.specs.declared.action.Action.{Action}
use Rattle.pl_directives.specs.declared.action.Action.TheVariants.{Put, Run, Pass, Repeat, Insert}
use Rattle.pl_directives.specs.declared.fault.ExpandFault.{ExpandFault}
use Rattle.pl_directives.specs.declared.fault.ExpandProblem.{ExpandProblem}
use Rattle.pl_directives.specs.declared.fault.ExpandProblem.TheVariants.{WrongKind, KeyTwice}
use Rattle.pl_directives.specs.declared.fault.ExpandProblem.TheVariants.{InsertNoMapping}
use Rattle.pl_directives.specs.declared.progress.Chain.{Chain}
use Rattle.pl_directives.specs.declared.progress.Chain.TheVariants.{Closed}
use Rattle.pl_directives.specs.declared.progress.Content.{Content}
use Rattle.pl_directives.specs.declared.progress.Content.TheVariants.{Pairs}
use Rattle.pl_directives.specs.declared.progress.Counted.{Counted}
use Rattle.pl_directives.specs.declared.progress.Progress.{Progress}
use Rattle.pl_directives.specs.declared.region.Region.TheVariants.{Free}
use Rattle.pl_directives.specs.Actions.{key_asks}
use Rattle.pl_directives.specs.Complaints.{refused}
use Rattle.pl_directives.specs.Contents.{with_chain, with_count, put_pair}
use Rattle.pl_directives.specs.Counting.{entered}
use Rattle.pl_directives.specs.Regions.{under}
use Rattle.pl_directives.specs.Scalars.{scalar_value}
use Rattle.pl_reading.specs.Steps.{◌>>=◌}
use Rattle.pl_calls.specs.Meant.{◌>>>◌, alone}
use Rattle.pl_calls.specs.Reaching.{Opens}
use Rattle.pl_recursion.specs.Expanding.{part_of, done}
use Rattle.pl_recursion.specs.Following.{scope_of}
use Rattle.pl_recursion.specs.Levels.{followed}
use Rattle.pl_recursion.specs.Settling.{node_settling, with_item}
use Rattle.pl_extends.specs.declared.extending.Extension.{Extension}
use Rattle.pl_extends.specs.declared.rooting.RootFilling.{RootFilling}
use Rattle.pl_extends.specs.Extending.{extended, value_extended}
use Rattle.pl_extends.specs.Forms.{is_form, form_place}

abbrev pub filled_with : Option Extension → Progress → RootFilling
filled_with extension progress = record { progress = progress; extension = extension }

-- what is put behind the pairs that are there, and behind what was extended by then
abbrev pub Rooting : Type 0
Rooting =
    Opens → Frame → RootFilling → List FileKey → Result (RootFilling × List FileKey) ExpandFault

abbrev pub chained : Chain → RootFilling → RootFilling
chained chain filling = filled_with filling.extension (with_chain chain filling.progress)

abbrev pub counting : ℕ → RootFilling → RootFilling
counting count filling = filled_with filling.extension (with_count count filling.progress)

-- ---- The root's own jobs and a template that it extends don't stand beside each other: the key
-- that is met second is refused before its value is expanded. It extends one template.

abbrev pub has_form : Content → Bool
has_form (Pairs pairs) = is_some (form_place pairs)
has_form other = false

abbrev pub extends_misplaced : Option Extension → Bool → Option ExpandProblem
extends_misplaced (Some extension) forms = Some KeyTwice
extends_misplaced None true = Some WrongKind
extends_misplaced None false = None

abbrev pub form_misplaced : Option Extension → Option ExpandProblem
form_misplaced (Some extension) = Some WrongKind
form_misplaced None = None

abbrev pub misplaced : RootFilling → List ℕ → Option ExpandProblem
misplaced filling key =
    if is key (codes "extends")
    then extends_misplaced filling.extension (has_form filling.progress.content)
    else if is_form key then form_misplaced filling.extension
    else None

abbrev pub unless_misplaced : Option ExpandProblem → Place → Result (Unit {0}) ExpandFault
unless_misplaced None place = Ok tt
unless_misplaced (Some problem) place = refused problem place

-- ---- a pair whose key is known

-- what the template gives; a chain of branches ends there
abbrev pub extended_behind : RootFilling → Extension → RootFilling
extended_behind filling extension =
    filled_with (Some extension)
    (with_chain Closed (with_count extension.count filling.progress))

abbrev pub key_put : Bool → List ℕ → Origin → Node → Rooting
key_put true key origin node opens frame filling used =
    extended opens origin node frame filling.progress.count used >>> λ extension used.
    Ok (extended_behind filling extension, used)
key_put false key origin node opens frame filling used =
    done (Put key origin) (part_of node) (scope_of (followed 100 opens) frame Free)
    filling.progress used >>> λ after used.
    Ok (filled_with filling.extension after, used)

abbrev pub named_put : List ℕ → Origin → Node → Rooting
named_put key origin node opens frame filling used =
    unless_misplaced (misplaced filling key) origin.source >>= λ none.
    key_put (is key (codes "extends")) key origin node opens frame filling used

-- ---- a pair that an expression gave

abbrev pub item_put : MarkedPair → RootFilling → Counted → Result RootFilling ExpandFault
item_put pair filling one =
    put_pair (with_item pair one.node) one.count filling.progress >>= λ after.
    Ok (filled_with filling.extension after)

abbrev pub given_by : Bool → MarkedPair → Rooting
given_by true pair opens frame filling used =
    value_extended opens pair.key_origin pair.item.origin.source pair.item frame
    filling.progress.count used >>> λ extension used.
    Ok (extended_behind filling extension, used)
given_by false pair opens frame filling used =
    node_settling pair.item (scope_of (followed 100 opens) frame (under pair.key Free))
    filling.progress.count used >>> λ one used.
    alone (item_put pair filling one) used

abbrev pub given_put : MarkedPair → Rooting
given_put pair opens frame filling used =
    unless_misplaced (misplaced filling pair.key) pair.key_origin.source >>= λ none.
    given_by (is pair.key (codes "extends")) pair opens frame filling used

abbrev pub all_given_put : List MarkedPair → Rooting
all_given_put [] opens frame filling used = Ok (filling, used)
all_given_put (pair ∷ pairs) opens frame filling used =
    given_put pair opens frame filling used >>> all_given_put pairs opens frame

abbrev pub value_put :
    Value-F Value MarkedNode MarkedPair → ExpandProblem → Place → Rooting
value_put (layer.Object pairs) problem place opens frame filling used =
    all_given_put pairs opens frame filling used
value_put other problem place opens frame filling used = refused problem place

-- ---- A part of the root file as what it stands in sees it: itself, and what it puts at the root.
-- In a directive's place what is no mapping is a problem.

pub record BodySeen : Type 0 where
  pub itself : NodeBody
  pub put : ExpandProblem → Place → Rooting

pub record NodeSeen : Type 0 where
  pub itself : Node
  pub put : ExpandProblem → Rooting

pub record PairSeen : Type 0 where
  pub itself : NodePair
  pub put : Rooting

abbrev pub text_put : List ℕ → ExpandProblem → Place → Rooting
text_put text problem place opens frame filling used =
    scalar_value text frame place filling.progress.count >>= λ one.
    value_put (out-Value one.node.value) problem place opens frame (counting one.count filling) used

abbrev pub list_put : ExpandProblem → Place → Rooting
list_put problem place opens frame filling used =
    entered place filling.progress.count >>= λ count. refused problem place

abbrev pub pairs_put : List PairSeen → Rooting
pairs_put [] opens frame filling used = Ok (filling, used)
pairs_put (pair ∷ pairs) opens frame filling used =
    pair.put opens frame filling used >>> pairs_put pairs opens frame

abbrev pub mapping_put : List PairSeen → ExpandProblem → Place → Rooting
mapping_put pairs problem place opens frame filling used =
    entered place filling.progress.count >>= λ count.
    pairs_put pairs opens frame (counting count filling) used

abbrev pub body_step : NodeBody-F BodySeen NodeSeen PairSeen → BodySeen
body_step (Scalar text) = record { itself = written.Scalar text; put = text_put text }
body_step (Seq items) = record {
  itself = written.Seq (map (λ (node : NodeSeen). node.itself) items);
  put = list_put;
}
body_step (Map pairs) = record {
  itself = written.Map (map (λ (pair : PairSeen). pair.itself) pairs);
  put = mapping_put pairs;
}

-- branches in it are chains of their own
abbrev pub node_put : Place → BodySeen → ExpandProblem → Rooting
node_put place inner problem opens frame filling used =
    inner.put problem place opens frame (chained Closed filling) used >>> λ after used.
    Ok (chained Closed after, used)

abbrev pub node_step : Node-F BodySeen NodeSeen PairSeen → NodeSeen
node_step node = record {
  itself = record { place = node.place; body = node.body.itself };
  put = node_put node.place node.body;
}

-- once for each item that the name stands for
abbrev pub turns_put : List ℕ → NodeSeen → List MarkedNode → Rooting
turns_put name node [] opens frame filling used = Ok (filling, used)
turns_put name node (item ∷ items) opens frame filling used =
    node.put WrongKind opens (within frame name item) filling used >>>
    turns_put name node items opens frame

abbrev pub asked_put : Action → NodeSeen → Rooting
asked_put (Put key origin) node opens frame filling used =
    named_put key origin node.itself opens frame filling used
asked_put (Run chain) node opens frame filling used =
    node.put WrongKind opens frame filling used >>> λ after used. Ok (chained chain after, used)
asked_put (Pass chain) node opens frame filling used = Ok (chained chain filling, used)
asked_put (Repeat loop count) node opens frame filling used =
    turns_put loop.name node loop.items opens frame (chained Closed (counting count filling)) used
asked_put Insert node opens frame filling used = node.put InsertNoMapping opens frame filling used

abbrev pub pair_put : List ℕ → Place → NodeSeen → Rooting
pair_put key place node opens frame filling used =
    key_asks key frame place filling.progress.chain filling.progress.count >>= λ action.
    asked_put action node opens frame filling used

abbrev pub pair_step : NodePair-F BodySeen NodeSeen PairSeen → PairSeen
pair_step pair = record {
  itself = record { key = pair.key; key_place = pair.key_place; item = pair.item.itself };
  put = pair_put pair.key pair.key_place pair.item;
}

abbrev pub node_seen : Node → NodeSeen
node_seen = fold-Node BodySeen NodeSeen PairSeen body_step node_step pair_step

abbrev pub body_seen : NodeBody → BodySeen
body_seen = fold-NodeBody BodySeen NodeSeen PairSeen body_step node_step pair_step

abbrev pub pair_seen : NodePair → PairSeen
pair_seen = fold-NodePair BodySeen NodeSeen PairSeen body_step node_step pair_step
