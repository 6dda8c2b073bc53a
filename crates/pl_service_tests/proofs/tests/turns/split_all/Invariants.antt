use Rattle.std.proofs.Common.{◌≡◌, false, All}
use Rattle.pl_service_tests.proofs.tests.turns.split_all.Given as goal

abbrev pub invariant-loop : goal.invariant-loop
invariant-loop g l =
    (l.last.lock ≡ l.lock) × (l.last.turn ≡ false)
    × All (λ s. (s.lock ≡ l.lock) × (s.turn ≡ false)) l.seats.items
