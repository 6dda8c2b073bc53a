-- Look-ups and projections (Microsoft Learn, Azure Pipelines, "Expressions", References and
-- Filtered arrays).
use Rattle.std.specs.Prelude.{ℕ, List, [], ◌∷◌, map, find, slice_get, Option, Some, None, unwrap_or}
use Rattle.std.specs.Prelude.{ℤ, pos, negsuc}
use Rattle.std.specs.Option.{option_map, option_and_then}
use Rattle.std.specs.List.{filter_map}
use Rattle.pl_base.specs.declared.origin.Origin.{Origin}
use Rattle.pl_base.specs.declared.value.Value.{Value, Null, Array, out-Value}
use Rattle.pl_base.specs.declared.value.Value.TheOpen.{Value-F}
use Rattle.pl_base.specs.declared.value.Value.TheOpen as layer
use Rattle.pl_base.specs.declared.value.MarkedNode.{MarkedNode}
use Rattle.pl_base.specs.declared.value.MarkedPair.{MarkedPair}
use Rattle.pl_eval.specs.declared.parts.RootPart.{RootPart}
use Rattle.pl_eval.specs.declared.parts.RootPart.TheVariants.{NoRoot, Missing, Found}
use Rattle.pl_eval.specs.Known.{Known, same_name, root_of}
use Rattle.pl_expr.specs.Conversions.{number_of_value, text_of}

-- a value that an expression makes has the origin of made values
abbrev pub made : Origin → Value → MarkedNode
made here value = record { origin = here; value = value }

-- a value as far as one level
abbrev pub Opened : Type 0
Opened = Value-F Value MarkedNode MarkedPair

-- the value of the first property of that name, its case aside
abbrev pub property : List MarkedPair → List ℕ → Option MarkedNode
property pairs name = option_map (λ pair. pair.item) (find (λ pair. same_name name pair.key) pairs)

-- the item at a place from 0
abbrev pub item_at : List MarkedNode → ℤ → Option MarkedNode
item_at items (pos at) = slice_get items at
item_at items (negsuc at) = None

-- What an index finds: in an array the item at the number that the index converts to, in an object
-- the property of the name that the index converts to, and nothing in anything else, or where the
-- index doesn't convert.
abbrev pub found_in : Opened → Value → Option MarkedNode
found_in (layer.Array items) at = option_and_then (item_at items) (number_of_value at)
found_in (layer.Object pairs) at = option_and_then (property pairs) (text_of at)
found_in value at = None

abbrev pub found : Value → Value → Option MarkedNode
found of at = found_in (out-Value of) at

-- What the indices of a path find in a node: each is looked up in what the one before it found.
abbrev pub found_behind : List Value → MarkedNode → Option MarkedNode
found_behind [] node = Some node
found_behind (at ∷ path) node = option_and_then (found_behind path) (found node.value at)

-- what a path finds in the value of a root, where there is such a root
abbrev pub part_of : Option (Option MarkedNode) → RootPart
part_of None = NoRoot
part_of (Some None) = Missing
part_of (Some (Some node)) = Found node

abbrev pub root_part : Known → List ℕ → List Value → RootPart
root_part known root path = part_of (option_map (found_behind path) (root_of known root))

-- a look-up hands on what it finds, and makes Null where there is nothing
abbrev pub looked_up : Origin → Value → Value → MarkedNode
looked_up here of at = unwrap_or (found of at) (made here Null)

-- the property of that name, which only objects have
abbrev pub member_in : Opened → List ℕ → Option MarkedNode
member_in (layer.Object pairs) name = property pairs name
member_in value name = None

abbrev pub member : List ℕ → Value → Option MarkedNode
member name of = member_in (out-Value of) name

-- each further name is looked up in what the one before it gave
abbrev pub member_behind : List (List ℕ) → MarkedNode → Option MarkedNode
member_behind [] node = Some node
member_behind (name ∷ names) node = option_and_then (member_behind names) (member name node.value)

-- what a projection goes through: an array's items, or an object's property values
abbrev pub items_in : Opened → List MarkedNode
items_in (layer.Array items) = items
items_in (layer.Object pairs) = map (λ pair. pair.item) pairs
items_in value = []

abbrev pub items_of : Value → List MarkedNode
items_of of = items_in (out-Value of)

-- a projection makes an array of what the names give in each item, and leaves out the items that
-- lack one
abbrev pub projected : List (List ℕ) → Value → Value
projected names of = Array (filter_map (member_behind names) (items_of of))
