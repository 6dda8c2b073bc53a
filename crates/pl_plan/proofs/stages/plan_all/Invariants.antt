use Rattle.std.proofs.Common.{◌≡◌, ◌++◌, drop}
use Rattle.pl_depends.specs.Places.{under}
use Rattle.pl_plan.specs.Plans.{plan_stages}
use Rattle.pl_plan.proofs.stages.plan_all.Given as goal

abbrev pub invariant-loop-at : goal.invariant-loop-at
invariant-loop-at l =
    l.stages ++ plan_stages l.pipeline (under l.places) l.at (drop l.at l.stage-items) ≡
    plan_stages l.pipeline (under l.places) 0 l.stage-items
