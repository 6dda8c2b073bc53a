-- The codes of what is wrong with a template.
use Rattle.std.specs.Prelude.{ℕ, List, codes}
use Rattle.pl_directives.specs.declared.fault.ExpandProblem.{ExpandProblem}
use Rattle.pl_directives.specs.declared.fault.ExpandProblem.TheVariants.{FileMissing, TooManyFiles}
use Rattle.pl_directives.specs.declared.fault.ExpandProblem.TheVariants.{NestedTooDeep}
use Rattle.pl_directives.specs.declared.fault.ExpandProblem.TheVariants.{TooManyNodes}
use Rattle.pl_directives.specs.declared.fault.ExpandProblem.TheVariants.{BadDirective, ElseAlone}
use Rattle.pl_directives.specs.declared.fault.ExpandProblem.TheVariants.{EachOverScalar}
use Rattle.pl_directives.specs.declared.fault.ExpandProblem.TheVariants.{InsertNoMapping, WrongKind}
use Rattle.pl_directives.specs.declared.fault.ExpandProblem.TheVariants.{ExtendsInTemplate}
use Rattle.pl_directives.specs.declared.fault.ExpandProblem.TheVariants.{UnknownAlias, Expression}
use Rattle.pl_directives.specs.declared.fault.ExpandProblem.TheVariants.{Evaluation, Parameter}
use Rattle.pl_directives.specs.declared.fault.ExpandProblem.TheVariants.{KeyTwice, BadFile}

abbrev pub code_of : ExpandProblem → List ℕ
code_of FileMissing = codes "X1"
code_of TooManyFiles = codes "X2"
code_of NestedTooDeep = codes "X3"
code_of TooManyNodes = codes "X4"
code_of BadDirective = codes "X5"
code_of ElseAlone = codes "X6"
code_of EachOverScalar = codes "X7"
code_of InsertNoMapping = codes "X8"
code_of WrongKind = codes "X9"
code_of ExtendsInTemplate = codes "X10"
code_of UnknownAlias = codes "X11"
code_of (Expression code) = codes "X12"
code_of (Evaluation code) = codes "X13"
code_of (Parameter problem) = codes "X14"
code_of KeyTwice = codes "X15"
code_of (BadFile code) = codes "X16"
