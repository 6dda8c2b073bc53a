use Rattle.std.proofs.Common.{◌≡◌, ◌++◌, drop, map}
use Rattle.pl_objects.specs.Runs.{beside, stage_status, unstarted_stage}
use Rattle.pl_objects.proofs.runs.stages_array.Given as goal

abbrev pub invariant-loop-at : goal.invariant-loop-at
invariant-loop-at l =
    l.items ++
    map stage_status (beside unstarted_stage (drop l.at l.stages) (drop l.at l.statuses)) ≡
    map stage_status (beside unstarted_stage l.stages l.statuses)
