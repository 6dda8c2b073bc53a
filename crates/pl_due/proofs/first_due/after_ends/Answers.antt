use Rattle.std.proofs.Common.{drop, subst}
use Rattle.pl_cond.proofs.Roots.{if_ok}
use Rattle.pl_due.specs.Due.{findings}
use Rattle.pl_due.specs.Kinds.{IsPassedOver}
use Rattle.pl_due.specs.Scans.{FirstStage, Waits}
use Rattle.pl_due.proofs.InOrder.{false_stays, found_here, found_later}
use Rattle.pl_due.proofs.first_due.after_ends.Goals as goal

pub after_conditions-requires-clause-says : goal.after_conditions-requires-clause-says
after_conditions-requires-clause-says c =
    let facts = c.args.journal.now.facts in
    subst (FirstStage facts (IsPassedOver facts) c.args.waiting.now) c.in-None.is
    c.in_ok-event.ensures

pub returns-in-Some : goal.returns-in-Some
returns-in-Some c =
    let facts = c.args.journal.now.facts in
    found_here facts (IsPassedOver facts) (Waits facts) c.args.waiting.now c.requires.waiting
    (false_stays facts c.args.moment) (drop 4 (findings facts c.args.moment)) c.in-Some.event
    (subst (FirstStage facts (IsPassedOver facts) c.args.waiting.now) c.in-Some.is
    c.in_ok-event.ensures)

pub returns-in-None : goal.returns-in-None
returns-in-None c =
    let facts = c.args.journal.now.facts in
    if_ok _ _ c.after_conditions.result (λ found. found_later facts (IsPassedOver facts)
    (Waits facts)
    c.args.waiting.now c.requires.waiting (false_stays facts c.args.moment)
    (drop 4 (findings facts c.args.moment)) found
    (subst (FirstStage facts (IsPassedOver facts) c.args.waiting.now) c.in-None.is
    c.in_ok-event.ensures))
    c.after_conditions.ensures
