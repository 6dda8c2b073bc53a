use Rattle.pl_worker.specs.Works.{stand}
use Rattle.pl_worker.proofs.Sofar.{Sofar}
use Rattle.pl_worker.proofs.worker.work.Given as goal

-- the links that were served so far, of which none was stopped
abbrev pub invariant-loop : goal.invariant-loop
invariant-loop g l =
    Sofar g.D.Desk.acts
    (stand l.fn.desk (g.C.Clock.coming l.fn.clock) (g.L.Listener.tells l.fn.door))
    (stand l.desk (g.C.Clock.coming l.clock) (g.L.Listener.tells l.door))
