use borrow.Author.Tests.{ltb-true}
use Rattle.pl_wire.proofs.Waits.{waits_now}
use Rattle.pl_wire.proofs.waiting.Waiting.goes_on.Goals as goal

pub returns-in-Content-clause-partial : goal.returns-in-Content-clause-partial
returns-in-Content-clause-partial c truth =
    waits_now c.in-Content.least c.args.bytes.now (rw c.in-Content.is at c.requires)
    (ltb-true _ _ truth)
