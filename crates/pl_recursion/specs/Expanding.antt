-- The expansion of a node in a frame (Microsoft Learn, Azure Pipelines, "Templates" and "Template
-- expressions"). Nodes are entered and counted in the order in which they stand, and the first
-- fault that is met is the answer.
use Rattle.std.specs.Prelude.{ℕ, List, [], ◌∷◌, map, Bool, true, false, None, Result, Ok}
use Rattle.pl_base.specs.declared.place.FileKey.{FileKey}
use Rattle.pl_base.specs.declared.place.Place.{Place}
use Rattle.pl_base.specs.declared.node.Node.{Node, fold-Node}
use Rattle.pl_base.specs.declared.node.NodeBody.{NodeBody, fold-NodeBody}
use Rattle.pl_base.specs.declared.node.NodePair.{NodePair, fold-NodePair}
use Rattle.pl_base.specs.declared.node.NodeBody.TheOpen.{NodeBody-F, Node-F, NodePair-F}
use Rattle.pl_base.specs.declared.node.NodeBody.TheOpen.{Scalar, Seq, Map}
use Rattle.pl_base.specs.declared.value.MarkedNode.{MarkedNode}
use Rattle.pl_frame.specs.Names.{within}
use Rattle.pl_frame.specs.Origins.{literal_at}
use Rattle.pl_frame.specs.declared.frame.Frame.{Frame}
use Rattle.pl_template.specs.Forms.{form_of}
use Rattle.pl_directives.specs.declared.action.Action.{Action}
use Rattle.pl_directives.specs.declared.action.Action.TheVariants.{Put, Run, Pass, Repeat, Insert}
use Rattle.pl_directives.specs.declared.fault.ExpandFault.{ExpandFault}
use Rattle.pl_directives.specs.declared.fault.ExpandProblem.{ExpandProblem}
use Rattle.pl_directives.specs.declared.fault.ExpandProblem.TheVariants.{WrongKind, InsertNoMapping}
use Rattle.pl_directives.specs.declared.fault.ExpandProblem.TheVariants.{BadDirective}
use Rattle.pl_directives.specs.declared.manner.Kind.{Kind}
use Rattle.pl_directives.specs.declared.manner.Kind.TheVariants as kind
use Rattle.pl_directives.specs.declared.manner.Manner.{Manner}
use Rattle.pl_directives.specs.declared.manner.Manner.TheVariants.{Empty, Stays, Splices, Mixed}
use Rattle.pl_directives.specs.declared.manner.Manner.TheVariants.{Unclosed}
use Rattle.pl_directives.specs.declared.progress.Chain.TheVariants.{Closed}
use Rattle.pl_directives.specs.declared.progress.Counted.{Counted}
use Rattle.pl_directives.specs.declared.progress.Progress.{Progress}
use Rattle.pl_directives.specs.Actions.{key_asks}
use Rattle.pl_directives.specs.Complaints.{refused}
use Rattle.pl_directives.specs.Contents.{with_chain, with_count, begun, as_items, as_pairs}
use Rattle.pl_directives.specs.Contents.{put_pair, finished, absorbed}
use Rattle.pl_directives.specs.Counting.{entered}
use Rattle.pl_directives.specs.Manners.{Facet, manner_of}
use Rattle.pl_directives.specs.Regions.{under, inside, of_item, is_path}
use Rattle.pl_directives.specs.Strays.{told, key_stray, unless_stray, given_value}
use Rattle.pl_reading.specs.Steps.{◌>>=◌}
use Rattle.pl_calls.specs.Meant.{◌>>>◌, alone}
use Rattle.pl_recursion.specs.Following.{Scope, in_frame, in_region}
use Rattle.pl_recursion.specs.Putting.{add_item, splice, spread}
use Rattle.pl_recursion.specs.Scalars.{scalar_at, path_at}
use Rattle.pl_recursion.specs.Settling.{node_settling}

-- ---- A node as what it stands in sees it

-- How a collection's content is put behind what is there, in a scope: as often as one likes, since
-- a loop does it once a turn.
abbrev pub Filling : Type 0
Filling = Scope → Progress → List FileKey → Result (Progress × List FileKey) ExpandFault

-- a node as a value
abbrev pub Valuing : Type 0
Valuing = Scope → ℕ → List FileKey → Result (Counted × List FileKey) ExpandFault

pub data Shape : Type 0 where
  scalar : List ℕ → Shape
  sequence : Filling → Shape
  mapping : Manner → Filling → Shape

pub record Part : Type 0 where
  pub place : Place
  pub shape : Shape

pub record Entry : Type 0 where
  pub key : List ℕ
  pub key_place : Place
  pub part : Part

-- ---- a node as a value

abbrev pub collected : Kind → Filling → Place → Valuing
collected kind fill place scope count used =
    entered place count >>= λ count.
    fill scope (begun kind Closed count) used >>> λ inner used.
    alone (finished (literal_at scope.frame place) inner) used

abbrev pub value_by : Shape → Place → Valuing
value_by (scalar text) place scope count used = scalar_at text scope place count used
value_by (sequence fill) place scope count used =
    collected kind.Items fill place scope count used
value_by (mapping manner fill) place scope count used =
    collected kind.Pairs fill place scope count used

-- ---- a node in a directive's place: its items or its pairs, else a problem where it stands; what
-- an expression gives for a call is judged before the calls in it are followed

abbrev pub body_by : Shape → Place → ExpandProblem → Filling
body_by (scalar text) place problem scope progress used =
    given_value text scope.frame place progress.count scope.region (told progress.content) >>=
    λ one.
    node_settling one.node scope one.count used >>> λ one used.
    alone (absorbed one.node problem place (with_count one.count progress)) used
body_by (sequence fill) place problem scope progress used =
    entered place progress.count >>= λ count.
    as_items problem place (with_count count progress) >>= λ begun.
    fill scope begun used
body_by (mapping manner fill) place problem scope progress used =
    entered place progress.count >>= λ count.
    as_pairs problem place (with_count count progress) >>= λ begun.
    fill scope begun used

-- branches in it are chains of their own
abbrev pub body : Part → ExpandProblem → Filling
body part problem scope progress used =
    body_by part.shape part.place problem scope (with_chain Closed progress) used >>>
    λ after used. Ok (with_chain Closed after, used)

-- once for each item that the name stands for
abbrev pub turns : List ℕ → Part → List MarkedNode → Filling
turns name part [] scope progress used = Ok (progress, used)
turns name part (item ∷ items) scope progress used =
    body part WrongKind (in_frame (within scope.frame name item) scope) progress used >>>
    turns name part items scope

-- ---- pairs of a mapping

-- The path of a call is a text, and not a value like any other. A key that may not stand there is
-- refused before its value is expanded.
abbrev pub path_by : Shape → Place → Frame → ℕ → Result Counted ExpandFault
path_by (scalar text) place frame count = path_at text frame place count
path_by other place frame count = entered place count >>= λ count. refused WrongKind place

abbrev pub value_under : Bool → List ℕ → Part → Valuing
value_under true key part scope count used =
    alone (path_by part.shape part.place scope.frame count) used
value_under false key part scope count used =
    value_by part.shape part.place (in_region (under key scope.region) scope) count used

abbrev pub done : Action → Part → Filling
done (Put key origin) part scope progress used =
    unless_stray (key_stray scope.region progress.content key origin.source) >>= λ none.
    value_under (is_path scope.region progress.content key) key part scope progress.count used >>>
    λ one used.
    alone
    (put_pair (record { key = key; key_origin = origin; item = one.node }) one.count progress) used
done (Run chain) part scope progress used =
    body part WrongKind scope progress used >>> λ after used. Ok (with_chain chain after, used)
done (Pass chain) part scope progress used = Ok (with_chain chain progress, used)
done (Repeat loop count) part scope progress used =
    turns loop.name part loop.items scope (with_chain Closed (with_count count progress)) used
done Insert part scope progress used = body part InsertNoMapping scope progress used

abbrev pub pair_behind : Entry → Filling
pair_behind entry scope progress used =
    key_asks entry.key scope.frame entry.key_place progress.chain progress.count >>= λ action.
    done action entry.part scope progress used

abbrev pub pairs_behind : List Entry → Filling
pairs_behind [] scope progress used = Ok (progress, used)
pairs_behind (entry ∷ entries) scope progress used =
    pair_behind entry scope progress used >>> pairs_behind entries scope

-- ---- items of a sequence

-- A mapping that is an item: a chain of branches may go on in its first key, and go on behind its
-- last one. A mapping without a key ends it.
abbrev pub mapping_behind : Manner → Filling → Place → Filling
mapping_behind Empty fill place scope progress used =
    finished (literal_at scope.frame place) (begun kind.Pairs Closed progress.count) >>= λ one.
    add_item scope one.node (with_chain Closed (with_count one.count progress)) used
mapping_behind Stays fill place scope progress used =
    fill (in_region (of_item scope.region) scope)
    (begun kind.Pairs progress.chain progress.count) used >>> λ inner used.
    finished (literal_at scope.frame place) inner >>= λ one.
    add_item scope one.node (with_chain inner.chain (with_count inner.count progress)) used
mapping_behind (Splices kind) fill place scope progress used =
    fill (in_region (of_item scope.region) scope)
    (begun kind progress.chain progress.count) used >>> λ inner used.
    splice scope (literal_at scope.frame place) inner.content
    (with_chain inner.chain (with_count inner.count progress)) used
mapping_behind (Mixed other) fill place scope progress used = refused WrongKind other
mapping_behind (Unclosed key) fill place scope progress used = refused BadDirective key

abbrev pub mapping_item_by : Manner → Filling → Place → Filling
mapping_item_by manner fill place scope progress used =
    entered place progress.count >>= λ count.
    mapping_behind manner fill place scope (with_count count progress) used

abbrev pub item_by : Shape → Place → Filling
item_by (scalar text) place scope progress used =
    given_value text scope.frame place progress.count (of_item scope.region) None >>= λ one.
    node_settling one.node scope one.count used >>> λ one used.
    spread scope one.node (with_chain Closed (with_count one.count progress)) used
item_by (sequence fill) place scope progress used =
    collected kind.Items fill place (in_region (inside scope.region) scope) progress.count used >>>
    λ one used.
    add_item scope one.node (with_chain Closed (with_count one.count progress)) used
item_by (mapping manner fill) place scope progress used =
    mapping_item_by manner fill place scope progress used

abbrev pub item_behind : Part → Filling
item_behind part = item_by part.shape part.place

abbrev pub items_behind : List Part → Filling
items_behind [] scope progress used = Ok (progress, used)
items_behind (part ∷ parts) scope progress used =
    item_behind part scope progress used >>> items_behind parts scope

-- ---- the whole recursion, which goes down the tree of nodes

abbrev pub kind_of : Shape → Kind
kind_of (scalar text) = kind.Unknown
kind_of (sequence fill) = kind.Items
kind_of (mapping manner fill) = kind.Pairs

abbrev pub facet_of : Entry → Facet
facet_of entry = record {
  key = form_of entry.key;
  key_place = entry.key_place;
  kind = kind_of entry.part.shape;
  place = entry.part.place;
}

-- a mapping of these pairs as an item
abbrev pub mapping_item : Place → List Entry → Filling
mapping_item place entries =
    mapping_item_by (manner_of (map facet_of entries)) (pairs_behind entries) place

abbrev pub shape_step : NodeBody-F Shape Part Entry → Shape
shape_step (Scalar text) = scalar text
shape_step (Seq parts) = sequence (items_behind parts)
shape_step (Map entries) = mapping (manner_of (map facet_of entries)) (pairs_behind entries)

abbrev pub part_step : Node-F Shape Part Entry → Part
part_step node = record { place = node.place; shape = node.body }

abbrev pub entry_step : NodePair-F Shape Part Entry → Entry
entry_step pair = record { key = pair.key; key_place = pair.key_place; part = pair.item }

abbrev pub part_of : Node → Part
part_of = fold-Node Shape Part Entry shape_step part_step entry_step

abbrev pub shape_of : NodeBody → Shape
shape_of = fold-NodeBody Shape Part Entry shape_step part_step entry_step

abbrev pub entry_of : NodePair → Entry
entry_of = fold-NodePair Shape Part Entry shape_step part_step entry_step

-- a node as a value in a scope
abbrev pub expanded : Node → Valuing
expanded node = value_by (part_of node).shape (part_of node).place
