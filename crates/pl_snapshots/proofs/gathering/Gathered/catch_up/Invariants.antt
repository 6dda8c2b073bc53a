use Rattle.std.proofs.Common.{◌≡◌}
use Rattle.pl_snapshots.specs.Gathering.{IsGathered}
use Rattle.pl_snapshots.proofs.gathering.Gathered.catch_up.Given as goal

abbrev pub invariant-loop-at : goal.invariant-loop-at
invariant-loop-at l = (l.self.count ≡ l.at) × IsGathered l.journal.facts l.self
