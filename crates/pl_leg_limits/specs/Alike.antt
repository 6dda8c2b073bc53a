-- Legs of one job, which have one limit.
use Rattle.std.specs.Prelude.{◌≡◌, ℕ, List, slice_get, Some}
use Rattle.pl_base.specs.declared.expanded.Argument.{Argument}
use Rattle.pl_base.specs.declared.place.FileKey.{FileKey}
use Rattle.pl_compile.specs.Compiling.{IsCompiledOf}
use Rattle.pl_compile.specs.Reading.{Texts}
use Rattle.pl_plan.specs.declared.plan.Compiled.{Compiled}
use Rattle.pl_plan.specs.declared.plan.Plan.{Plan}
use Rattle.pl_plan.specs.declared.plan.PlanJob.{PlanJob}
use Rattle.pl_plan.specs.declared.plan.PlanStage.{PlanStage}

-- jobs of one name in a stage have one limit
abbrev pub AreAlike : Plan → Type 0
AreAlike plan = (stage left right : ℕ) (staged : PlanStage) (one other : PlanJob) →
    slice_get plan.stages stage ≡ Some staged → slice_get staged.jobs left ≡ Some one →
    slice_get staged.jobs right ≡ Some other → one.name ≡ other.name →
    one.max_parallel ≡ other.max_parallel

-- so it is in whatever sources compile to
abbrev pub LegsAreAlike : Type 0
LegsAreAlike = (texts : Texts) (root : FileKey) (arguments : List Argument)
    (compiled : Compiled) → IsCompiledOf texts root arguments compiled → AreAlike compiled.plan
