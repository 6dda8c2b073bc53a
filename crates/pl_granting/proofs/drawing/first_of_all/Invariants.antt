use Rattle.pl_granting.proofs.LeastJob.{NoneBefore}
use Rattle.pl_granting.proofs.drawing.first_of_all.Given as goal

abbrev pub invariant-loop-run : goal.invariant-loop-run
invariant-loop-run l = NoneBefore l.journal.facts l.agent l.run-items l.run-index
