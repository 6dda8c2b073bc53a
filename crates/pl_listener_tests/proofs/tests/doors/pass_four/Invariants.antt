use Rattle.std.proofs.Common.{◌≡◌, None}
use Rattle.pl_listener_tests.proofs.tests.doors.pass_four.Given as goal

-- no link is out
abbrev pub invariant-loop : goal.invariant-loop
invariant-loop g l = (g.L.Listener.tells l.door).out ≡ None
