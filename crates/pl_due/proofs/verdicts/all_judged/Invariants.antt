use Rattle.pl_due.proofs.Once.{SoFar}
use Rattle.pl_due.proofs.verdicts.all_judged.Given as goal

-- what is told of the places that are left, behind those so far, is told of all
abbrev pub invariant-loop-place : goal.invariant-loop-place
invariant-loop-place l = SoFar l.journal.facts l.fn.moment l.places l.place-index l.eligible
