use Rattle.std.proofs.Common.{sym, ◌∙◌}
use Rattle.pl_due.specs.Asked.{facts_of}
use Rattle.pl_looks.proofs.Finding.{if_all}
use Rattle.pl_looks.proofs.Telling.{ready_is, ready_none}
use Rattle.pl_looks.proofs.jobs.ready_job.Goals as goal

pub returns-in-Some : goal.returns-in-Some
returns-in-Some c =
    let at = c.args.at.now in
    if_all _ _ c.ready_if.result (λ told is. is ∙ sym (ready_is (facts_of at) at.planned.now at.run
    at.stage c.args.job c.in-Some.planned.now (sym c.in-Some.ensures.value))) c.ready_if.ensures

pub returns-in-None : goal.returns-in-None
returns-in-None c =
    let at = c.args.at.now in
    sym (ready_none (facts_of at) at.planned.now at.run at.stage c.args.job
    (sym c.in-None.ensures.value))
