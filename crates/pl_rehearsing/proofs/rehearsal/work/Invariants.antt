use Rattle.pl_rehearsing.specs.Parts.{WorksOff}
use Rattle.pl_rehearsing.proofs.rehearsal.work.Given as goal

-- so many jobs were drawn and reported
abbrev pub invariant-loop-jobs : goal.invariant-loop-jobs
invariant-loop-jobs g l =
    WorksOff g.D.Desk.acts l.jobs l.fn.desk l.fn.asker l.desk l.asker
