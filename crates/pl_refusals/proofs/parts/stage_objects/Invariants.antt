use Rattle.std.proofs.Common.{◌≡◌, map, take}
use Rattle.pl_refusals.specs.Rows.{stage_object}
use Rattle.pl_refusals.proofs.parts.stage_objects.Given as goal

abbrev pub invariant-loop-stage : goal.invariant-loop-stage
invariant-loop-stage l = l.items ≡ map stage_object (take l.stage-index l.stage-items)
