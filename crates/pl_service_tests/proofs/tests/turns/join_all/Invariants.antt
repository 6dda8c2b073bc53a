use Rattle.std.proofs.Common.{◌≡◌, false, All}
use Rattle.pl_service_tests.proofs.tests.turns.join_all.Given as goal

abbrev pub invariant-loop-other : goal.invariant-loop-other
invariant-loop-other l =
    (l.seat.lock ≡ l.lock) × (l.seat.turn ≡ false)
    × All (λ s. (s.lock ≡ l.lock) × (s.turn ≡ false)) l.seats.items

abbrev pub decreases-loop-other : goal.decreases-loop-other
decreases-loop-other l = goal.left-loop-other l
