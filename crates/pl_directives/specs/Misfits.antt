-- What is wrong with a value in a directive's place.
use Rattle.pl_directives.specs.declared.fault.ExpandProblem.{ExpandProblem}
use Rattle.pl_directives.specs.declared.fault.ExpandProblem.TheVariants as problem
use Rattle.pl_directives.specs.declared.misfit.Misfit.{Misfit}
use Rattle.pl_directives.specs.declared.misfit.Misfit.TheVariants.{WrongKind, InsertNoMapping}

abbrev pub problem_of : Misfit → ExpandProblem
problem_of WrongKind = problem.WrongKind
problem_of InsertNoMapping = problem.InsertNoMapping
