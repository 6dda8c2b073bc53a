use Rattle.std.proofs.Common.{◌≡◌, drop}
use Rattle.std.specs.Prelude.{flat_map}
use Rattle.pl_depends.specs.declared.fault.PlanCode.TheVariants.{TooManyJobs}
use Rattle.pl_plan.specs.Limits.{left_over, leg_seats}
use Rattle.pl_plan.proofs.limits.behind_jobs.Given as goal

abbrev pub invariant-loop-job : goal.invariant-loop-job
invariant-loop-job l = left_over TooManyJobs l.initial.left (flat_map leg_seats l.jobs) ≡
    left_over TooManyJobs l.left (flat_map leg_seats (drop l.job-index l.jobs))
