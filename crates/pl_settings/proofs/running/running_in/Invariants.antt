use Rattle.std.proofs.Common.{◌≡◌, flat_map, take}
use Rattle.pl_settings.specs.Running.{running_of}
use Rattle.pl_settings.proofs.running.running_in.Given as goal

abbrev pub invariant-loop-run : goal.invariant-loop-run
invariant-loop-run l =
    l.found ≡ flat_map (running_of l.journal.facts l.key) (take l.run-index l.runs)
