-- What the scalars and the keys of a tree of values say, with where they come from.
use Rattle.std.specs.Prelude.{ℕ, List, [], ◌∷◌, ◌++◌, Option, Some, None}
use Rattle.std.specs.List.{AllByRecursion}
use Rattle.pl_base.specs.declared.origin.Crossing.{Crossing}
use Rattle.pl_base.specs.declared.origin.Crossing.TheVariants.{Extends, Include}
use Rattle.pl_base.specs.declared.origin.Origin.{Origin}
use Rattle.pl_base.specs.declared.place.Place.{Place}
use Rattle.pl_base.specs.declared.value.Value.{Value, fold-Value}
use Rattle.pl_base.specs.declared.value.Value as value
use Rattle.pl_base.specs.declared.value.Value.TheOpen.{Value-F, MarkedNode-F, MarkedPair-F}
use Rattle.pl_base.specs.declared.value.Value.TheOpen.{Null, Bool as Truth, Number, Version, Str}
use Rattle.pl_base.specs.declared.value.Value.TheOpen.{Array, Object}
use Rattle.pl_base.specs.declared.value.MarkedNode.{MarkedNode, fold-MarkedNode}
use Rattle.pl_base.specs.declared.value.MarkedPair.{MarkedPair, fold-MarkedPair}

-- a key says its text, and a scalar its value
pub data Said : Type 0 where
  key : List ℕ → Said
  scalar : Value → Said

pub record Mark : Type 0 where
  pub origin : Origin
  pub said : Said

abbrev pub Marks : Type 0
Marks = List Mark

abbrev pub mark : Origin → Said → Mark
mark origin said = record { origin = origin; said = said }

-- a value's own atom, where it is one, and the marks below it
pub record ValueMarks : Type 0 where
  pub atom : Option Value
  pub marks : Marks

-- lists, one behind the other
abbrev pub together : List Marks → Marks
together [] = []
together (first ∷ rest) = first ++ together rest

abbrev pub collection : List Marks → ValueMarks
collection below = record { atom = None; marks = together below }

abbrev pub alone : Value → ValueMarks
alone one = record { atom = Some one; marks = [] }

abbrev pub value_step : Value-F ValueMarks Marks Marks → ValueMarks
value_step (Array items) = collection items
value_step (Object pairs) = collection pairs
value_step Null = alone value.Null
value_step (Truth truth) = alone (value.Bool truth)
value_step (Number number) = alone (value.Number number)
value_step (Version segments) = alone (value.Version segments)
value_step (Str text) = alone (value.Str text)

abbrev pub said_at : Origin → Option Value → Marks
said_at origin None = []
said_at origin (Some one) = mark origin (scalar one) ∷ []

abbrev pub node_step : MarkedNode-F ValueMarks Marks Marks → Marks
node_step node = said_at node.origin node.value.atom ++ node.value.marks

abbrev pub pair_step : MarkedPair-F ValueMarks Marks Marks → Marks
pair_step pair = mark pair.key_origin (key pair.key) ∷ pair.item

unfoldable pub marks_of : MarkedNode → Marks
marks_of = fold-MarkedNode ValueMarks Marks Marks value_step node_step pair_step

unfoldable pub value_marks : Value → ValueMarks
value_marks = fold-Value ValueMarks Marks Marks value_step node_step pair_step

unfoldable pub marks_in : MarkedPair → Marks
marks_in = fold-MarkedPair ValueMarks Marks Marks value_step node_step pair_step

-- ---- what came across borders between files alone: no argument and no expression gave it

abbrev pub IsOfFiles : Crossing → Type 0
IsOfFiles (Extends file) = Unit {0}
IsOfFiles (Include file at) = Unit {0}
IsOfFiles other = ⊥

-- what is said where it is written has that of it
abbrev pub IsTold : (Place → Said → Type 0) → Origin → Said → Type 0
IsTold says origin said = AllByRecursion IsOfFiles origin.crossings → says origin.source said
