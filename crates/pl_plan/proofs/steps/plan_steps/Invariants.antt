use Rattle.std.proofs.Common.{◌≡◌, map, take}
use Rattle.pl_plan.specs.Plans.{plan_step}
use Rattle.pl_plan.proofs.steps.plan_steps.Given as goal

abbrev pub invariant-loop-step : goal.invariant-loop-step
invariant-loop-step l = l.made ≡ map plan_step (take l.step-index l.steps)
