use Rattle.std.proofs.Common.{drop, subst}
use Rattle.pl_cond.proofs.Roots.{if_ok}
use Rattle.pl_due.specs.Contention.{Holds}
use Rattle.pl_due.specs.Due.{findings}
use Rattle.pl_due.specs.Kinds.{JobIsPassedOver}
use Rattle.pl_due.specs.Scans.{FirstStage}
use Rattle.pl_due.proofs.InOrder.{false_job_stays, found_here, found_later}
use Rattle.pl_due.proofs.first_due.after_timeouts.Goals as goal

pub returns-in-Some : goal.returns-in-Some
returns-in-Some c =
    let facts = c.args.journal.now.facts in
    found_here facts (JobIsPassedOver facts) (Holds facts) c.args.running.now c.requires.running
    (false_job_stays facts c.args.moment) (drop 2 (findings facts c.args.moment)) c.in-Some.event
    (subst (FirstStage facts (JobIsPassedOver facts) c.args.running.now) c.in-Some.is
    c.in_ok-event.ensures)

pub returns-in-None : goal.returns-in-None
returns-in-None c =
    let facts = c.args.journal.now.facts in
    if_ok _ _ c.after_jobs.result (λ found. found_later facts (JobIsPassedOver facts) (Holds facts)
    c.args.running.now c.requires.running (false_job_stays facts c.args.moment)
    (drop 2 (findings facts c.args.moment)) found
    (subst (FirstStage facts (JobIsPassedOver facts) c.args.running.now) c.in-None.is
    c.in_ok-event.ensures))
    c.after_jobs.ensures
