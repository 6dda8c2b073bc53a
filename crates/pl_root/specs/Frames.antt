-- What names stand for in the root file (Microsoft Learn, Azure Pipelines, "Template
-- expressions").
use Rattle.std.specs.Prelude.{List, []}
use Rattle.std.specs.Prelude.{Option, Some, None}
use Rattle.pl_base.specs.declared.place.FileKey.{FileKey}
use Rattle.pl_base.specs.declared.value.Value.{Value, Null}
use Rattle.pl_base.specs.declared.value.MarkedNode.{MarkedNode}
use Rattle.pl_frame.specs.Variables.{variables_of}
use Rattle.pl_frame.specs.declared.frame.Frame.{Frame}
use Rattle.pl_frame.specs.declared.frame.Parameter.{Parameter}
use Rattle.pl_frame.specs.declared.frame.Variable.{Variable}

-- ---- its frame

abbrev pub root_frame : FileKey → List Parameter → List Variable → Frame
root_frame root parameters variables = record {
  file = root;
  parameters = parameters;
  variables = variables;
  loops = [];
  crossings = [];
}

-- before its variables are expanded only those of the run are there
abbrev pub first_frame : FileKey → List Parameter → Frame
first_frame root parameters = root_frame root parameters (variables_of root.git_ref Null)

-- ---- its frame once its variables were expanded

-- what templates see of it
abbrev pub early_value : Option MarkedNode → Value
early_value None = Null
early_value (Some node) = node.value

abbrev pub second_frame : FileKey → List Parameter → Option MarkedNode → Frame
second_frame root parameters early =
    root_frame root parameters (variables_of root.git_ref (early_value early))
