-- The parameters of a frame, from what was declared and what was bound.
use Rattle.std.specs.Prelude.{List, [], ◌∷◌, if◌then◌else◌}
use Rattle.pl_base.specs.declared.origin.Crossing.{Crossing}
use Rattle.pl_base.specs.declared.origin.Origin.{Origin}
use Rattle.pl_base.specs.declared.value.MarkedNode.{MarkedNode}
use Rattle.pl_params.specs.declared.given.Bound.{Bound}
use Rattle.pl_params.specs.declared.param.Param.{Param}
use Rattle.pl_frame.specs.declared.frame.Parameter.{Parameter}
use Rattle.pl_frame.specs.Trees.{moved}

-- what is written in a file has the crossings of the file's frame
abbrev pub crossed : List Crossing → Origin → Origin
crossed crossings origin = record { source = origin.source; crossings = crossings }

-- A default is a literal of its file; what was given keeps its origins.
abbrev pub standing : List Crossing → Bound → MarkedNode
standing crossings bound =
    if bound.given then bound.value else moved (crossed crossings) bound.value

abbrev pub parameter_of : List Crossing → Param → Bound → Parameter
parameter_of crossings param bound = record {
  name = bound.name;
  place = param.place;
  value = standing crossings bound;
  given = bound.given;
}

-- each declared parameter with what is bound to it
abbrev pub parameters_of : List Crossing → List Param → List Bound → List Parameter
parameters_of crossings [] bound = []
parameters_of crossings (param ∷ params) [] = []
parameters_of crossings (param ∷ params) (one ∷ bound) =
    parameter_of crossings param one ∷ parameters_of crossings params bound
