use Rattle.pl_due.specs.Fit.{AreFit}
use Rattle.pl_settling.proofs.Turns.{SoFar, left}
use Rattle.pl_settling.proofs.settling.settle.Given as goal

abbrev pub invariant-loop-event : goal.invariant-loop-event
invariant-loop-event l = record {
  fit : AreFit l.journal.facts;
  so_far : SoFar l.fn.moment l.fn.journal l.journal;
}

abbrev pub decreases-loop-event : goal.decreases-loop-event
decreases-loop-event l = left l.fn.journal l.journal
