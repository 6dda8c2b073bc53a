use Rattle.pl_wire.proofs.written.refused_reply.Goals as goal

pub returns-in-RouteUnknown : goal.returns-in-RouteUnknown
returns-in-RouteUnknown c = rw c.in-RouteUnknown.is c.refusal.ensures
