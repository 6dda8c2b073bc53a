-- The codes of what is wrong with a pipeline as a whole.
use Rattle.std.specs.Prelude.{ℕ, List, codes}
use Rattle.pl_depends.specs.declared.fault.PlanCode.{PlanCode}
use Rattle.pl_depends.specs.declared.fault.PlanCode.TheVariants.{UnknownDependency, Cycle}
use Rattle.pl_depends.specs.declared.fault.PlanCode.TheVariants.{TooManyStages, TooManyJobs, BadLeg}
use Rattle.pl_depends.specs.declared.fault.PlanCode.TheVariants.{TooManySteps}

abbrev pub code_of : PlanCode → List ℕ
code_of UnknownDependency = codes "L1"
code_of (Cycle names) = codes "L2"
code_of TooManyStages = codes "L3"
code_of TooManyJobs = codes "L4"
code_of BadLeg = codes "L5"
code_of TooManySteps = codes "L6"
