use Rattle.std.proofs.Common.{◌≡◌, drop, take}
use Rattle.pl_depends.specs.Gives.{each_passes}
use Rattle.pl_plan.specs.Legs.{AreLegsOf, legs_judged}
use Rattle.pl_plan.proofs.legs.legs_of_jobs.Given as goal

abbrev pub invariant-loop-job : goal.invariant-loop-job
invariant-loop-job l = record {
  judged : each_passes legs_judged l.jobs ≡ each_passes legs_judged (drop l.job-index l.jobs);
  kept : AreLegsOf (take l.job-index l.jobs) l.kept;
}
