use Rattle.std.proofs.Common.{◌≡◌}
use Rattle.pl_door.proofs.connection.TcpLink.read.Given as goal

abbrev pub invariant-loop : goal.invariant-loop
invariant-loop g l = record {
  ended : l.self.ended ≡ l.fn.self.ended;
  read_faults : l.self.read_faults ≡ l.fn.self.read_faults;
  write_faults : l.self.write_faults ≡ l.fn.self.write_faults;
}
