use Rattle.std.proofs.Common.{◌≡◌, map, take}
use Rattle.pl_plan.specs.Labels.{label}
use Rattle.pl_plan_report.proofs.jobs.labels_of.Given as goal

abbrev pub invariant-loop-job : goal.invariant-loop-job
invariant-loop-job l = l.labels ≡ map label (take l.job-index l.jobs)
