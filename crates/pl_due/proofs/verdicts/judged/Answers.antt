use Rattle.std.proofs.Common.{None, Some, refl, sym, ◌∙◌, ◌&&◌}
use Rattle.pl_views.specs.CheckViews.{check_view}
use Rattle.pl_due.specs.Asked.{facts_of}
use Rattle.pl_due.specs.Checked.{all_checks, is_permitted}
use Rattle.pl_due.specs.Contention.{IsEligible}
use Rattle.pl_due.specs.Kinds.{Fails}
use Rattle.pl_due.proofs.InOrder.{says_true}
use Rattle.pl_due.proofs.Judged.{eligible_both, fails_none, fails_some}
use Rattle.pl_due.proofs.Once.{none_told, nothing_waits, some_told}
use Rattle.pl_due.proofs.Picking.{picked_if}
use Rattle.pl_due.proofs.Scanned.{lifted}
use Rattle.pl_due.proofs.verdicts.judged.Goals as goal

pub returns-then-not-is_waiting : goal.returns-then-not-is_waiting
returns-then-not-is_waiting c =
    let at = c.args.at.now in
    nothing_waits (facts_of at) at.moment at.run at.stage c.nothing.result.fails
    c.nothing.result.picked at.queued.now at.planned.now c.requires.asked.there
    (sym c.is_waiting.ensures ∙ c.if-not-is_waiting.true) c.nothing.ensures.fails
    c.nothing.ensures.picked

pub returns-in_ok-fail_end-in-Some : goal.returns-in_ok-fail_end-in-Some
returns-in_ok-fail_end-in-Some c =
    let at = c.args.at.now in
    let facts = facts_of at in
    let event = c.in_ok-fail_end-in-Some.field-0 in
    some_told facts at.moment at.run at.stage (Some event) None event refl
    (lifted facts (Fails facts at.moment) at.run at.stage at.queued.now at.planned.now (Some event)
    c.requires.asked.there
    (fails_some facts at.moment at.queued.now at.planned.now at.run at.stage
    (c.judgement_laws.ensures.one (all_checks facts at.planned.now.uses)
    (check_view at.queued.now at.planned.now at.run at.stage facts) at.moment)
    c.in_ok-judgement.judgement c.in_ok-judgement.ensures c.in-Some.rule event
    (sym c.is_waiting.ensures ∙ c.if-not-is_waiting.false)
    (sym c.fail_of.ensures ∙ c.in-Some.is) c.in_ok-fail_end-in-Some.ensures))

pub returns-in_ok-contender_where-in-None : goal.returns-in_ok-contender_where-in-None
returns-in_ok-contender_where-in-None c =
    let at = c.args.at.now in
    let facts = facts_of at in
    let told = at.queued.now in
    let one = at.planned.now in
    let there = c.requires.asked.there in
    let law = c.judgement_laws.ensures.one (all_checks facts one.uses)
    (check_view told one at.run at.stage facts) at.moment in
    let judgement = c.in_ok-judgement.judgement in
    let judged = c.in_ok-judgement.ensures in
    let waits = sym c.is_waiting.ensures ∙ c.if-not-is_waiting.false in
    let picked = c.in_ok-contender_where-in-None.field-0 in
    none_told facts at.moment at.run at.stage None picked refl
    (lifted facts (Fails facts at.moment) at.run at.stage told one None there
    (fails_none facts at.moment told one at.run at.stage law judgement judged
    (sym c.fail_of.ensures ∙ c.in-None.is)))
    (picked_if facts (IsEligible facts at.moment) told one at.run at.stage there
    (c.passes-passes.result && is_permitted facts told one)
    (eligible_both facts at.moment told one at.run at.stage law judgement judged
    c.passes-passes.result
    c.passes-passes.ensures waits
    (says_true facts told one at.run at.stage c.requires.says there waits))
    picked c.in_ok-contender_where-in-None.ensures)
