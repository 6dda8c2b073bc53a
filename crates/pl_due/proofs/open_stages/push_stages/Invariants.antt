use Rattle.std.proofs.Common.{◌≡◌, ◌++◌}
use Rattle.pl_due.specs.Open.{passing, runs, waits}
use Rattle.pl_due.proofs.open_stages.push_stages.Given as goal

abbrev pub invariant-loop-stage : goal.invariant-loop-stage
invariant-loop-stage l = record {
  running : l.running ≡ l.fn.running ++ passing (runs l.journal.facts) l.stages l.fn.run l.stage;
  waiting : l.waiting ≡ l.fn.waiting ++ passing (waits l.journal.facts) l.stages l.fn.run l.stage;
}
