use Rattle.std.proofs.Common.{sym}
use Rattle.pl_wire.proofs.Memory.{memory_written}
use Rattle.pl_wire.proofs.written.memory_reply.Goals as goal

pub returns : goal.returns
returns c = sym memory_written
