use Rattle.pl_wire.proofs.written.fault_reply.Goals as goal

pub returns-in-LengthMissing : goal.returns-in-LengthMissing
returns-in-LengthMissing c = rw c.in-LengthMissing.is c.refusal-in-LengthMissing.ensures
