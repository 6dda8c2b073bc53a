use Rattle.std.proofs.Common.{List, ◌++◌, drop}
use Rattle.pl_locks.specs.declared.contender.Contender.{Contender}
use Rattle.pl_due.specs.Scans.{Picked}
use Rattle.pl_due.proofs.contention.contenders.Given as goal

-- those of the stages that are left behind those so far are those of all
abbrev pub invariant-loop-place : goal.invariant-loop-place
invariant-loop-place g l = (rest : List Contender) →
    Picked l.journal.facts (g.H.Holding.of l.holding l.journal.facts l.fn.moment)
    (drop l.place-index l.places) rest →
    Picked l.journal.facts (g.H.Holding.of l.holding l.journal.facts l.fn.moment) l.places
    (l.picked ++ rest)
