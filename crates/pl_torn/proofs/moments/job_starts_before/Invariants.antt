use Rattle.std.proofs.Common.{◌≡◌, drop}
use Rattle.pl_torn.specs.Moments as spec
use Rattle.pl_torn.proofs.moments.job_starts_before.Given as goal

abbrev pub invariant-loop-other : goal.invariant-loop-other
invariant-loop-other l =
    spec.starts_before (spec.job_ended_at l.all l.told.run l.told.stage)
    (drop l.other-index l.depends) l.told.position (spec.job_begun l.told) ≡
    spec.starts_before (spec.job_ended_at l.all l.told.run l.told.stage) l.depends l.told.position
    (spec.job_begun l.told)
