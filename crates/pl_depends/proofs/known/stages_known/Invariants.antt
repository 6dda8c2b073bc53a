use Rattle.std.proofs.Common.{◌≡◌, drop}
use Rattle.pl_depends.specs.Gives.{each_passes}
use Rattle.pl_depends.specs.Known.{stage_known}
use Rattle.pl_depends.specs.Places.{under}
use Rattle.pl_depends.proofs.known.stages_known.Given as goal

abbrev pub invariant-loop-stage : goal.invariant-loop-stage
invariant-loop-stage l = each_passes (stage_known (under l.places)) l.stages ≡ each_passes
    (stage_known (under l.places)) (drop l.stage-index l.stages)
