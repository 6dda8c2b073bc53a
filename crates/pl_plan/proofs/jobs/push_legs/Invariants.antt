use Rattle.std.proofs.Common.{◌≡◌, ◌++◌, map, take}
use Rattle.pl_plan.specs.Plans.{plan_leg}
use Rattle.pl_plan.proofs.jobs.push_legs.Given as goal

abbrev pub invariant-loop-leg : goal.invariant-loop-leg
invariant-loop-leg l = l.jobs ≡ l.initial.jobs ++ map
    (plan_leg l.pool l.common.depends l.common.steps l.job) (take l.leg-index l.legs)
