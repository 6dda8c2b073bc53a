use Rattle.pl_rehearsing.specs.Parts.{Begins}
use Rattle.pl_rehearsing.proofs.rehearsal.begin.Given as goal

-- the input so far was asked
abbrev pub invariant-loop-number : goal.invariant-loop-number
invariant-loop-number g l =
    Begins g.D.Desk.acts l.number l.fn.desk l.fn.asker l.desk l.asker
