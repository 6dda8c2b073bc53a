-- Declared parameters, and what is bound to them.
use Rattle.std.specs.Prelude.{List, [], Option, Some, None, Result, Ok, Err}
use Rattle.pl_base.specs.declared.node.Node.{Node}
use Rattle.pl_params.specs.Binding.{binds}
use Rattle.pl_params.specs.Declaring.{declares}
use Rattle.pl_params.specs.declared.fault.Complaint.{Complaint}
use Rattle.pl_params.specs.declared.given.Bound.{Bound}
use Rattle.pl_params.specs.declared.given.Given.{Given}
use Rattle.pl_params.specs.declared.param.Param.{Param}
use Rattle.pl_directives.specs.declared.fault.ExpandFault.{ExpandFault}
use Rattle.pl_directives.specs.declared.fault.ExpandProblem.TheVariants.{Parameter}
use Rattle.pl_directives.specs.Complaints.{refused}

abbrev pub parameter_told : {X : Type 0} → Result X Complaint → Result X ExpandFault
parameter_told (Ok value) = Ok value
parameter_told (Err first) = refused (Parameter first.problem) first.place

-- the parameters that the value of a file's key `parameters` declares
abbrev pub declared_by : Option Node → Result (List Param) ExpandFault
declared_by None = Ok []
declared_by (Some node) = parameter_told (declares node)

abbrev pub bound_to : List Param → List Given → Result (List Bound) ExpandFault
bound_to declared given = parameter_told (binds declared given)
