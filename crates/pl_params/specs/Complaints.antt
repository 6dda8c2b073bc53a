-- A complaint, and how it names a value.
use Rattle.pl_base.specs.declared.place.Place.{Place}
use Rattle.pl_base.specs.declared.value.Value.{Value, out-Value}
use Rattle.pl_base.specs.declared.value.Value.TheOpen as layer
use Rattle.pl_expr.specs.Conversions.{cast_text}
use Rattle.pl_literal.specs.Items.{Opened}
use Rattle.pl_params.specs.declared.fault.Complaint.{Complaint}
use Rattle.pl_params.specs.declared.fault.Found.{Found}
use Rattle.pl_params.specs.declared.fault.Found.TheVariants.{Atom, Sequence, Mapping}
use Rattle.pl_params.specs.declared.fault.ParamProblem.{ParamProblem}

abbrev pub complaint : ParamProblem → Place → Complaint
complaint what place = record { problem = what; place = place }

abbrev pub found_from : Value → Opened → Found
found_from value (layer.Array items) = Sequence
found_from value (layer.Object pairs) = Mapping
found_from value atom = Atom (cast_text value)

abbrev pub found_of : Value → Found
found_of value = found_from value (out-Value value)
