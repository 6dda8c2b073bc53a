use Rattle.std.proofs.Common.{drop, subst, sym}
use Rattle.pl_cond.proofs.Roots.{if_ok}
use Rattle.pl_due.specs.Contention.{AreThose, IsEligible}
use Rattle.pl_due.specs.Due.{findings}
use Rattle.pl_due.specs.Kinds.{Fails}
use Rattle.pl_due.specs.Scans.{FirstStage, Waits}
use Rattle.pl_due.proofs.InOrder.{failing_stays, found_here, found_later}
use Rattle.pl_due.proofs.Picking.{are_those}
use Rattle.pl_due.proofs.first_due.after_conditions.Goals as goal

pub by_locks-requires-clause-eligible : goal.by_locks-requires-clause-eligible
by_locks-requires-clause-eligible c =
    let facts = c.args.journal.now.facts in
    let P = IsEligible facts c.args.moment in
    subst (AreThose facts P) (sym c.as_slice.ensures) (are_those facts P (Waits facts)
    c.args.waiting.now c.in_ok-fails.field-0.eligible c.requires.waiting
    (λ told one run stage is. is.waits) (c.in_ok-fails.ensures.1 c.in-None.is))

pub returns-in-Some : goal.returns-in-Some
returns-in-Some c =
    let facts = c.args.journal.now.facts in
    found_here facts (Fails facts c.args.moment) (Waits facts) c.args.waiting.now
    c.requires.waiting (failing_stays facts c.args.moment)
    (drop 5 (findings facts c.args.moment)) c.in-Some.event
    (subst (FirstStage facts (Fails facts c.args.moment) c.args.waiting.now) c.in-Some.is
    c.in_ok-fails.ensures.0)

pub returns : goal.returns
returns c =
    let facts = c.args.journal.now.facts in
    if_ok _ _ c.by_locks.result (λ found. found_later facts (Fails facts c.args.moment)
    (Waits facts) c.args.waiting.now c.requires.waiting (failing_stays facts c.args.moment)
    (drop 5 (findings facts c.args.moment)) found
    (subst (FirstStage facts (Fails facts c.args.moment) c.args.waiting.now) c.in-None.is
    c.in_ok-fails.ensures.0)) c.by_locks.ensures
