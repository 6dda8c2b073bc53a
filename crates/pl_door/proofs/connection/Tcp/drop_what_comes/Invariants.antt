use Rattle.std.proofs.Common.{◌≤◌}
use Rattle.pl_door.proofs.connection.Tcp.drop_what_comes.Given as goal

-- no more is dropped than may be
abbrev pub invariant-loop : goal.invariant-loop
invariant-loop g l = l.dropped ≤ 262144
