use Rattle.std.proofs.Common.{◌≡◌}
use Rattle.pl_process.proofs.streams.ReadingSource.read.Given as goal

abbrev pub invariant-loop : goal.invariant-loop
invariant-loop g l = record {
  ended : l.self.ended ≡ l.fn.self.ended;
  faults : l.self.faults ≡ l.fn.self.faults;
}
