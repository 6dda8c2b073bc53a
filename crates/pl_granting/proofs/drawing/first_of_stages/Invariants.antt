use Rattle.pl_granting.proofs.LeastJob.{NoneBelow}
use Rattle.pl_granting.proofs.drawing.first_of_stages.Given as goal

abbrev pub invariant-loop-stage : goal.invariant-loop-stage
invariant-loop-stage l = NoneBelow l.journal.facts l.agent l.fn.run l.stage
