use Rattle.std.proofs.Common.{drop, subst}
use Rattle.pl_cond.proofs.Roots.{if_ok}
use Rattle.pl_due.specs.Contention.{Holds}
use Rattle.pl_due.specs.Due.{findings}
use Rattle.pl_due.specs.Kinds.{TimesOut}
use Rattle.pl_due.specs.Scans.{FirstStage}
use Rattle.pl_due.proofs.InOrder.{found_here, found_later, timed_stays}
use Rattle.pl_due.proofs.first_due.first_of_all.Goals as goal

pub returns-in-Some : goal.returns-in-Some
returns-in-Some c =
    let facts = c.args.journal.now.facts in
    found_here facts (TimesOut facts c.args.moment)
    (Holds facts) c.args.running.now c.requires.running
    (timed_stays facts c.args.moment) (drop 1 (findings facts c.args.moment)) c.in-Some.event
    (subst (FirstStage facts (TimesOut facts c.args.moment) c.args.running.now) c.in-Some.is
    c.in_ok-event.ensures)

pub returns-in-None : goal.returns-in-None
returns-in-None c =
    let facts = c.args.journal.now.facts in
    if_ok _ _ c.after_timeouts.result (λ found. found_later facts (TimesOut facts c.args.moment)
    (Holds facts)
    c.args.running.now c.requires.running (timed_stays facts c.args.moment)
    (drop 1 (findings facts c.args.moment)) found
    (subst (FirstStage facts (TimesOut facts c.args.moment) c.args.running.now) c.in-None.is
    c.in_ok-event.ensures))
    c.after_timeouts.ensures
