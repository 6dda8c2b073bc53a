use Rattle.std.proofs.Common.{◌≡◌, false}
use Rattle.pl_service_tests.proofs.tests.turns.leave_all.Given as goal

abbrev pub invariant-loop-at : goal.invariant-loop-at
invariant-loop-at g l = (l.seat.lock ≡ l.initial.seat.lock) × (l.seat.turn ≡ false)
