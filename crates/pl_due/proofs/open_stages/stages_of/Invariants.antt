use Rattle.std.proofs.Common.{◌≡◌, flat_map, take}
use Rattle.pl_due.specs.Open.{of_run, runs, waits}
use Rattle.pl_due.proofs.open_stages.stages_of.Given as goal

abbrev pub invariant-loop-run : goal.invariant-loop-run
invariant-loop-run l = record {
  running :
      l.running
      ≡ flat_map (of_run l.journal.facts (runs l.journal.facts)) (take l.run-index l.runs);
  waiting :
      l.waiting
      ≡ flat_map (of_run l.journal.facts (waits l.journal.facts)) (take l.run-index l.runs);
}
