-- What is wrong, and where.
use Rattle.std.specs.Prelude.{Result, Err}
use Rattle.pl_base.specs.declared.place.Place.{Place}
use Rattle.pl_directives.specs.declared.fault.Complaint.{Complaint}
use Rattle.pl_directives.specs.declared.fault.ExpandFault.{ExpandFault}
use Rattle.pl_directives.specs.declared.fault.ExpandFault.TheVariants.{Refused, Memory}
use Rattle.pl_directives.specs.declared.fault.ExpandProblem.{ExpandProblem}

abbrev pub complaint : ExpandProblem → Place → Complaint
complaint problem place = record { problem = problem; place = place }

abbrev pub refused : {X : Type 0} → ExpandProblem → Place → Result X ExpandFault
refused problem place = Err (Refused (complaint problem place))

-- A file for which memory was wanting has no meaning, and nothing else may be answered for it.
abbrev pub wanting : {X : Type 0} → Result X ExpandFault
wanting = Err Memory
