use Rattle.std.proofs.Common.{◌≡◌}
use Rattle.pl_process.proofs.streams.WritingSink.write.Given as goal

abbrev pub invariant-loop : goal.invariant-loop
invariant-loop g l = record { faults : l.self.faults ≡ l.fn.self.faults }
