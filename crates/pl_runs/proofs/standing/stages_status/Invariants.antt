use Rattle.std.proofs.Common.{◌≡◌, map}
use Rattle.std.specs.List.{range_with_len}
use Rattle.pl_runs.specs.Runs.{stage_status}
use Rattle.pl_runs.proofs.standing.stages_status.Given as goal

abbrev pub invariant-loop-stage : goal.invariant-loop-stage
invariant-loop-stage l =
    l.status ≡ map (stage_status l.journal.facts l.fn.run l.stages) (range_with_len 0 l.stage)
