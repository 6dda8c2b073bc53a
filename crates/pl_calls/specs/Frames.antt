-- The frame of a called template: its parameters are bound, and nothing of the caller is seen in it
-- but the variables of the root.
use Rattle.std.specs.Prelude.{List, [], ◌∷◌, ◌++◌, map, codes, Result, Ok}
use Rattle.pl_base.specs.declared.node.NodePair.{NodePair}
use Rattle.pl_base.specs.declared.origin.Crossing.{Crossing}
use Rattle.pl_base.specs.declared.place.FileKey.{FileKey}
use Rattle.pl_base.specs.declared.value.MarkedPair.{MarkedPair}
use Rattle.pl_frame.specs.Bindings.{parameters_of}
use Rattle.pl_frame.specs.declared.frame.Frame.{Frame}
use Rattle.pl_frame.specs.declared.frame.Parameter.{Parameter}
use Rattle.pl_frame.specs.declared.frame.Variable.{Variable}
use Rattle.pl_params.specs.declared.given.Given.{Given}
use Rattle.pl_directives.specs.declared.fault.ExpandFault.{ExpandFault}
use Rattle.pl_reading.specs.Steps.{◌>>=◌}
use Rattle.pl_calls.specs.Calls.{given_across}
use Rattle.pl_calls.specs.declared.frames.Template.{Template as Lent}
use Rattle.pl_calls.specs.Parameters.{declared_by, bound_to}
use Rattle.pl_params.specs.Nodes.{under}

abbrev pub inner_frame :
    FileKey → List Parameter → List Variable → List Crossing → Frame
inner_frame file parameters variables crossings = record {
  file = file;
  parameters = parameters;
  variables = variables;
  loops = [];
  crossings = crossings;
}

abbrev pub parameters_for :
    List NodePair → List Crossing → List Given → Result (List Parameter) ExpandFault
parameters_for pairs crossings given =
    declared_by (under (codes "parameters") pairs) >>= λ declared.
    bound_to declared given >>= λ bound.
    Ok (parameters_of crossings declared bound)

-- A template that is called: its file, and its pairs.
pub record Template : Type 0 where
  pub file : FileKey
  pub pairs : List NodePair

abbrev pub template_of : FileKey → List NodePair → Template
template_of file pairs = record { file = file; pairs = pairs }

abbrev pub template_seen : Lent → Template
template_seen lent = template_of lent.file.now lent.pairs.now

abbrev pub framed :
    Template → List Variable → List Given → List Crossing → Result Frame ExpandFault
framed template variables given crossings =
    parameters_for template.pairs crossings given >>= λ parameters.
    Ok (inner_frame template.file parameters variables crossings)

-- its frame, across a border behind others
abbrev pub framed_by :
    Template → List Variable → List MarkedPair → Crossing → List Crossing →
    Result Frame ExpandFault
framed_by template variables arguments border crossings =
    framed template variables (map (given_across border) arguments) (crossings ++ border ∷ [])
