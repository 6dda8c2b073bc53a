use Rattle.std.proofs.Common.{◌≡◌, drop}
use Rattle.pl_torn.specs.Moments as spec
use Rattle.pl_torn.proofs.moments.stage_starts_before.Given as goal

abbrev pub invariant-loop-other : goal.invariant-loop-other
invariant-loop-other l =
    spec.starts_before (spec.stage_ended_at l.all l.told.run) (drop l.other-index l.depends)
    l.told.position l.told.started ≡ spec.starts_before (spec.stage_ended_at l.all l.told.run)
    l.depends l.told.position l.told.started
