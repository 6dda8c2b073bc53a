use Rattle.std.proofs.Common.{◌≡◌, ◌++◌, filter_map}
use Rattle.std.specs.List.{range_with_len}
use Rattle.pl_settings.specs.Running.{running_at}
use Rattle.pl_settings.proofs.running.push_stages.Given as goal

abbrev pub invariant-loop-stage : goal.invariant-loop-stage
invariant-loop-stage l =
    l.found ≡ l.fn.found ++ filter_map (running_at l.journal.facts l.key l.fn.run l.stages)
    (range_with_len 0 l.stage)
