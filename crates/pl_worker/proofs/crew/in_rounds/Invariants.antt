use Rattle.pl_worker.proofs.Rounds.{CrewBetween}
use Rattle.pl_worker.proofs.crew.in_rounds.Given as goal

-- so far each worker found the door closed, behind the links that it served
abbrev pub invariant-loop : goal.invariant-loop
invariant-loop g l =
    CrewBetween g.C.Clock.coming g.L.Listener.tells g.D.Desk.acts l.fn.crew l.posts
