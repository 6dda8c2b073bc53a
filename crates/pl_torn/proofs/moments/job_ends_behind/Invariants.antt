use Rattle.std.proofs.Common.{◌≡◌, drop}
use Rattle.pl_torn.specs.Moments as spec
use Rattle.pl_torn.proofs.moments.job_ends_behind.Given as goal

abbrev pub invariant-loop-other : goal.invariant-loop-other
invariant-loop-other l = record {
  here : l.at ≡ l.other-index;
  left : spec.job_ends_behind l.all l.told l.other-index (drop l.other-index l.jobs) ≡
      spec.job_ends_behind l.all l.told 0 l.jobs;
}
