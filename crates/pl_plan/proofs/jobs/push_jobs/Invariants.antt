use Rattle.std.proofs.Common.{◌≡◌, ◌++◌, drop}
use Rattle.std.specs.Prelude.{flat_map}
use Rattle.pl_depends.specs.Places.{under}
use Rattle.pl_plan.specs.Plans.{plan_job}
use Rattle.pl_plan.proofs.jobs.push_jobs.Given as goal

abbrev pub invariant-loop-at : goal.invariant-loop-at
invariant-loop-at l = l.jobs ++ flat_map (plan_job l.pipeline l.stage (under l.places))
    (drop l.at l.job-items) ≡ l.initial.jobs ++ flat_map
    (plan_job l.pipeline l.stage (under l.places)) l.job-items
