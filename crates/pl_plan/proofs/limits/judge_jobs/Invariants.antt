use Rattle.std.proofs.Common.{◌≡◌, drop}
use Rattle.pl_depends.specs.declared.fault.PlanCode.TheVariants.{TooManyJobs}
use Rattle.pl_plan.specs.Limits.{left_over, leg_seats, seats_in}
use Rattle.pl_plan.proofs.limits.judge_jobs.Given as goal

abbrev pub invariant-loop-stage : goal.invariant-loop-stage
invariant-loop-stage l = left_over TooManyJobs 256 (seats_in leg_seats l.stages) ≡
    left_over TooManyJobs l.left (seats_in leg_seats (drop l.stage-index l.stages))
