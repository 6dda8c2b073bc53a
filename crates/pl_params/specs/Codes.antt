-- The codes of what is wrong with parameters.
use Rattle.std.specs.Prelude.{ℕ, List, codes}
use Rattle.pl_params.specs.declared.fault.ParamProblem.{ParamProblem}
use Rattle.pl_params.specs.declared.fault.ParamProblem.TheVariants.{TypeUnknown, Duplicate}
use Rattle.pl_params.specs.declared.fault.ParamProblem.TheVariants.{BadDefault, Missing, Unexpected}
use Rattle.pl_params.specs.declared.fault.ParamProblem.TheVariants.{NotOfType, NotAllowed}
use Rattle.pl_params.specs.declared.fault.ParamProblem.TheVariants.{BadDeclaration}

abbrev pub code_of : ParamProblem → List ℕ
code_of (TypeUnknown name found) = codes "P1"
code_of (Duplicate name) = codes "P2"
code_of (BadDefault name kind found) = codes "P3"
code_of (Missing name kind) = codes "P4"
code_of (Unexpected name) = codes "P5"
code_of (NotOfType name kind found) = codes "P6"
code_of (NotAllowed name found) = codes "P7"
code_of (BadDeclaration why) = codes "P8"
