use Rattle.std.proofs.Common.{◌≡◌, false}
use Rattle.pl_open_runs.specs.Open.{has_open_stage}
use Rattle.pl_open_runs.proofs.openness.has_open_stage.Given as goal

abbrev pub invariant-loop-stage : goal.invariant-loop-stage
invariant-loop-stage l = has_open_stage l.fn.run l.stage l.journal.facts ≡ false
