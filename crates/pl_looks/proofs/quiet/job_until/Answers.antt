use Rattle.std.proofs.Common.{sym}
use Rattle.pl_due.specs.Asked.{facts_of}
use Rattle.pl_looks.proofs.Until.{held_job, no_job, not_held}
use Rattle.pl_looks.proofs.quiet.job_until.Goals as goal

pub returns-in-Some-holding-clause-quiet : goal.returns-in-Some-holding-clause-quiet
returns-in-Some-holding-clause-quiet c = λ later behind before.
    let at = c.args.at.now in
    held_job (facts_of at) at.moment later at.planned.now at.run at.stage c.args.job
    c.in-Some.planned.now (sym c.in-Some.ensures.value) c.in-Some-holding.fact.now
    (sym c.in-Some-holding.ensures) (c.time_over.ensures.quiet later behind before)

pub returns-in-None-holding-clause-quiet : goal.returns-in-None-holding-clause-quiet
returns-in-None-holding-clause-quiet c = λ later behind before.
    let at = c.args.at.now in
    not_held (facts_of at) at.moment later at.planned.now at.run at.stage c.args.job
    c.in-Some.planned.now (sym c.in-Some.ensures.value) (sym c.in-None-holding.ensures)

pub returns-in-None-clause-quiet : goal.returns-in-None-clause-quiet
returns-in-None-clause-quiet c = λ later behind before.
    let at = c.args.at.now in
    no_job (facts_of at) at.moment later at.planned.now at.run at.stage c.args.job
    (sym c.in-None.ensures.value)
