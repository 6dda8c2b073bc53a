-- A collection as far as it is expanded: what is put behind what is there. It has one kind, and
-- what is of the other kind can't stand in it.
use Rattle.std.specs.Prelude.{ℕ, List, [], ◌∷◌, ◌++◌, Option, Some, None, Result, Ok, if◌then◌else◌}
use Rattle.pl_base.specs.declared.origin.Origin.{Origin}
use Rattle.pl_base.specs.declared.place.Place.{Place}
use Rattle.pl_base.specs.declared.value.Value.{Value, Array, Object, out-Value}
use Rattle.pl_base.specs.declared.value.Value.TheOpen.{Value-F}
use Rattle.pl_base.specs.declared.value.Value.TheOpen as layer
use Rattle.pl_base.specs.declared.value.MarkedNode.{MarkedNode}
use Rattle.pl_base.specs.declared.value.MarkedPair.{MarkedPair}
use Rattle.pl_eval.specs.LookUps.{made}
use Rattle.pl_frame.specs.Doubles.{first_double}
use Rattle.pl_directives.specs.declared.fault.ExpandFault.{ExpandFault}
use Rattle.pl_directives.specs.declared.fault.ExpandProblem.{ExpandProblem}
use Rattle.pl_directives.specs.declared.fault.ExpandProblem.TheVariants.{KeyTwice, WrongKind}
use Rattle.pl_directives.specs.declared.manner.Kind.{Kind}
use Rattle.pl_directives.specs.declared.manner.Kind.TheVariants as kind
use Rattle.pl_directives.specs.declared.progress.Chain.{Chain}
use Rattle.pl_directives.specs.declared.progress.Chain.TheVariants.{Closed}
use Rattle.pl_directives.specs.declared.progress.Content.{Content}
use Rattle.pl_directives.specs.declared.progress.Content.TheVariants.{Unknown, Items, Pairs}
use Rattle.pl_directives.specs.declared.progress.Counted.{Counted}
use Rattle.pl_directives.specs.declared.progress.Progress.{Progress}
use Rattle.pl_directives.specs.Complaints.{refused}
use Rattle.pl_reading.specs.Steps.{◌>>=◌}

-- ---- progress

abbrev pub with_content : Content → Progress → Progress
with_content content progress =
    record { content = content; chain = progress.chain; count = progress.count }

abbrev pub with_chain : Chain → Progress → Progress
with_chain chain progress =
    record { content = progress.content; chain = chain; count = progress.count }

abbrev pub with_count : ℕ → Progress → Progress
with_count count progress =
    record { content = progress.content; chain = progress.chain; count = count }

-- nothing yet of a collection of a kind
abbrev pub nothing_of : Kind → Content
nothing_of kind.Unknown = Unknown
nothing_of kind.Items = Items []
nothing_of kind.Pairs = Pairs []

abbrev pub begun : Kind → Chain → ℕ → Progress
begun kind chain count = record { content = nothing_of kind; chain = chain; count = count }

-- ---- one kind

-- a collection that is to have items: one of pairs can't, and the problem stands at that place
abbrev pub items_content : ExpandProblem → Place → Content → Result Content ExpandFault
items_content problem place Unknown = Ok (Items [])
items_content problem place (Items items) = Ok (Items items)
items_content problem place (Pairs pairs) = refused problem place

-- the same of pairs
abbrev pub pairs_content : ExpandProblem → Place → Content → Result Content ExpandFault
pairs_content problem place Unknown = Ok (Pairs [])
pairs_content problem place (Items items) = refused problem place
pairs_content problem place (Pairs pairs) = Ok (Pairs pairs)

abbrev pub as_items : ExpandProblem → Place → Progress → Result Progress ExpandFault
as_items problem place progress =
    items_content problem place progress.content >>= λ content. Ok (with_content content progress)

abbrev pub as_pairs : ExpandProblem → Place → Progress → Result Progress ExpandFault
as_pairs problem place progress =
    pairs_content problem place progress.content >>= λ content. Ok (with_content content progress)

-- ---- what is put behind

abbrev pub items_behind : Place → List MarkedNode → Content → Result Content ExpandFault
items_behind place more Unknown = Ok (Items more)
items_behind place more (Items items) = Ok (Items (items ++ more))
items_behind place more (Pairs pairs) = refused WrongKind place

abbrev pub pairs_behind : Place → List MarkedPair → Content → Result Content ExpandFault
pairs_behind place more Unknown = Ok (Pairs more)
pairs_behind place more (Items items) = refused WrongKind place
pairs_behind place more (Pairs pairs) = Ok (Pairs (pairs ++ more))

abbrev pub add_items : Place → List MarkedNode → Progress → Result Progress ExpandFault
add_items place items progress =
    items_behind place items progress.content >>= λ content. Ok (with_content content progress)

abbrev pub add_pairs : Place → List MarkedPair → Progress → Result Progress ExpandFault
add_pairs place pairs progress =
    pairs_behind place pairs progress.content >>= λ content. Ok (with_content content progress)

-- a pair of its own ends a chain of branches
abbrev pub put_pair : MarkedPair → ℕ → Progress → Result Progress ExpandFault
put_pair pair count progress =
    add_pairs pair.key_origin.source (pair ∷ []) (with_chain Closed (with_count count progress))

-- ---- the whole collection

-- no key stands twice
abbrev pub distinct : Option Place → List MarkedPair → Result (List MarkedPair) ExpandFault
distinct None pairs = Ok pairs
distinct (Some place) pairs = refused KeyTwice place

abbrev pub object_of : Origin → List MarkedPair → Result MarkedNode ExpandFault
object_of origin pairs =
    distinct (first_double pairs) pairs >>= λ pairs. Ok (made origin (Object pairs))

abbrev pub node_of : Origin → Content → Result MarkedNode ExpandFault
node_of origin (Items items) = Ok (made origin (Array items))
node_of origin (Pairs pairs) = object_of origin pairs
node_of origin Unknown = object_of origin []

abbrev pub finished : Origin → Progress → Result Counted ExpandFault
finished origin progress =
    node_of origin progress.content >>= λ node. Ok (record { node = node; count = progress.count })

-- ---- an expression's value in a directive's place: an array gives items, an object pairs
abbrev pub absorbed_of :
    Value-F Value MarkedNode MarkedPair → ExpandProblem → Place → Progress →
    Result Progress ExpandFault
absorbed_of (layer.Array items) problem place progress =
    as_items problem place progress >>= add_items place items
absorbed_of (layer.Object pairs) problem place progress =
    as_pairs problem place progress >>= add_pairs place pairs
absorbed_of atom problem place progress = refused problem place

abbrev pub absorbed : MarkedNode → ExpandProblem → Place → Progress → Result Progress ExpandFault
absorbed node problem place progress = absorbed_of (out-Value node.value) problem place progress
