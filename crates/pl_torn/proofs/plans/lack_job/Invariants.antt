use Rattle.std.proofs.Common.{◌≡◌, drop}
use Rattle.pl_torn.specs.Plans as spec
use Rattle.pl_torn.proofs.plans.lack_job.Given as goal

abbrev pub invariant-loop-job : goal.invariant-loop-job
invariant-loop-job l = record {
  here : l.at ≡ l._job-index;
  left : spec.lack_job l.all l.run l.stage l._job-index (drop l._job-index l.jobs) ≡
      spec.lack_job l.all l.run l.stage 0 l.jobs;
}
