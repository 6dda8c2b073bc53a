use Rattle.std.proofs.Common.{arith}
use Rattle.pl_wire.proofs.Readings.{waits_content}
use Rattle.pl_wire.proofs.waiting.Waiting.of.Goals as goal

pub returns-in-Whole : goal.returns-in-Whole
returns-in-Whole c =
    let h = c.in-Whole.ensures in
    waits_content c.args.bytes.now c.in-Whole.head h.0 c.saturating_add.result h.1 h.2
    (omega (arith, c.saturating_add.ensures))
