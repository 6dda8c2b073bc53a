use Rattle.std.proofs.Common.{arith}
use Rattle.pl_looks.proofs.Until.{on_time}
use Rattle.pl_looks.proofs.quiet.time_over.Goals as goal

pub returns-then-moment-over-clause-quiet : goal.returns-then-moment-over-clause-quiet
returns-then-moment-over-clause-quiet c = λ later behind before.
    on_time c.args.minutes c.args.taken c.args.moment c.saturating_add-over.result later c.requires
    c.saturating_add-over.ensures (λ early. before)

pub returns-else-moment-over-clause-quiet : goal.returns-else-moment-over-clause-quiet
returns-else-moment-over-clause-quiet c = λ later behind before.
    on_time c.args.minutes c.args.taken c.args.moment c.saturating_add-over.result later c.requires
    c.saturating_add-over.ensures
    (λ early. absurd (omega (arith, early, c.if-moment-over.false)))
