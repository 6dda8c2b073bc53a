use Rattle.std.proofs.Common.{◌≡◌, drop}
use Rattle.pl_depends.specs.declared.fault.PlanCode.TheVariants.{TooManySteps}
use Rattle.pl_plan.specs.Limits.{left_over, seats_in, step_seats}
use Rattle.pl_plan.proofs.limits.judge_steps.Given as goal

abbrev pub invariant-loop-stage : goal.invariant-loop-stage
invariant-loop-stage l = left_over TooManySteps 2000 (seats_in step_seats l.stages) ≡
    left_over TooManySteps l.left (seats_in step_seats (drop l.stage-index l.stages))
