use Rattle.std.proofs.Common.{◌≡◌, drop}
use Rattle.std.specs.Prelude.{flat_map}
use Rattle.pl_depends.specs.declared.fault.PlanCode.TheVariants.{TooManySteps}
use Rattle.pl_plan.specs.Limits.{left_over, step_seats}
use Rattle.pl_plan.proofs.limits.behind_all_steps.Given as goal

abbrev pub invariant-loop-job : goal.invariant-loop-job
invariant-loop-job l = left_over TooManySteps l.initial.left (flat_map step_seats l.jobs) ≡
    left_over TooManySteps l.left (flat_map step_seats (drop l.job-index l.jobs))
