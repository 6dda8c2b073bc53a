-- What names stand for in a frame (Microsoft Learn, Azure Pipelines, "Templates" and "Expressions",
-- Contexts): the loops around, the parameters and the variables.
use Rattle.std.specs.Prelude.{ℕ, ◌++◌, false, List, [], ◌∷◌, map, reverse, codes}
use Rattle.std.specs.Prelude.{if◌then◌else◌}
use Rattle.std.specs.FinMap as finite
use Rattle.pl_base.specs.Folding.{folded}
use Rattle.pl_base.specs.declared.origin.Crossing.TheVariants.{Argument}
use Rattle.pl_base.specs.declared.origin.Origin.{Origin}
use Rattle.pl_base.specs.declared.place.Place.{Place}
use Rattle.pl_base.specs.declared.value.Value.{Str, Object}
use Rattle.pl_base.specs.declared.value.MarkedNode.{MarkedNode}
use Rattle.pl_base.specs.declared.value.MarkedPair.{MarkedPair}
use Rattle.pl_eval.specs.Known.{Known}
use Rattle.pl_eval.specs.LookUps.{made}
use Rattle.pl_frame.specs.declared.frame.Frame.{Frame}
use Rattle.pl_frame.specs.declared.frame.Loop.{Loop}
use Rattle.pl_frame.specs.declared.frame.Parameter.{Parameter}
use Rattle.pl_frame.specs.declared.frame.Variable.{Variable}
use Rattle.pl_frame.specs.Origins.{literal_at, made_at, across}
use Rattle.pl_frame.specs.Trees.{moved, all_moved}

-- ---- the parameters, in the order of their declarations

-- What an expression at that place takes of a node of a parameter's value: every node and key of
-- what was given crosses the parameter once more; a default is a literal.
abbrev pub taken_of : Place → Parameter → MarkedNode → MarkedNode
taken_of place parameter node =
    if parameter.given then moved (across (Argument parameter.name place)) node else node

abbrev pub taken : Place → Parameter → MarkedNode
taken place parameter = taken_of place parameter parameter.value

-- its name counts as written where it is declared
abbrev pub parameter_pair : Frame → Place → Parameter → MarkedPair
parameter_pair frame place parameter = record {
  key = parameter.name;
  key_origin = literal_at frame parameter.place;
  item = taken place parameter;
}

abbrev pub parameters_at : Frame → Place → MarkedNode
parameters_at frame place =
    made (made_at frame place) (Object (map (parameter_pair frame place) frame.parameters))

-- ---- the variables: all that the expression takes of them is made there

abbrev pub variable_pair : Frame → Place → Variable → MarkedPair
variable_pair frame place variable = record {
  key = variable.name;
  key_origin = made_at frame place;
  item = made (made_at frame place) (all_moved (λ _. made_at frame place) variable.value);
}

abbrev pub variables_at : Frame → Place → MarkedNode
variables_at frame place =
    made (made_at frame place) (Object (map (variable_pair frame place) frame.variables))

-- ---- all names, the case aside: an inner loop's, an outer loop's, and then the contexts

abbrev pub loop_entry : Loop → List ℕ × MarkedNode
loop_entry one = (folded one.name, one.item)

abbrev pub contexts_at : Frame → Place → List (List ℕ × MarkedNode)
contexts_at frame place =
    (codes "PARAMETERS", parameters_at frame place)
    ∷ (codes "VARIABLES", variables_at frame place)
    ∷ []

abbrev pub roots_at : Frame → Place → List (List ℕ × MarkedNode)
roots_at frame place = map loop_entry (reverse frame.loops) ++ contexts_at frame place

-- what an expression at a place of the frame's file knows: names, and no run
abbrev pub known_at : Frame → Place → Known
known_at frame place = record {
  roots = finite.from_entries (roots_at frame place);
  canceled = false;
  all = [];
  named = [];
}

-- ---- one loop more

abbrev pub within : Frame → List ℕ → MarkedNode → Frame
within frame name item =
    record frame { loops = frame.loops ++ record { name = name; item = item } ∷ [] }

-- a property
abbrev pub named : Origin → List ℕ → MarkedNode → MarkedPair
named origin key item = record { key = key; key_origin = origin; item = item }

-- A pair of an object that a loop goes over, as an object: the object and its keys are made by the
-- loop's expression, and the text of the pair's key comes from where that key does.
abbrev pub pair_object : Frame → Place → MarkedPair → MarkedNode
pair_object frame place pair =
    made (made_at frame place) (Object (
    named (made_at frame place) (codes "key") (made pair.key_origin (Str pair.key))
    ∷ named (made_at frame place) (codes "value") pair.item
    ∷ []))
