use Rattle.std.proofs.Common.{sym, ◌∙◌}
use Rattle.pl_views.specs.CheckViews.{check_view}
use Rattle.pl_due.specs.Asked.{facts_of}
use Rattle.pl_due.specs.Checked.{all_checks}
use Rattle.pl_due.proofs.Judged.{eligible_if, not_eligible, not_held, not_permitted}
use Rattle.pl_due.proofs.eligible.EligibleHolding.holds.Goals as goal

pub returns-then-not-is_waiting : goal.returns-then-not-is_waiting
returns-then-not-is_waiting c =
    let at = c.args.at.now in
    not_eligible (facts_of at) at.moment at.queued.now at.planned.now at.run at.stage
    (sym c.is_waiting.ensures ∙ c.if-not-is_waiting.true)

pub returns-then-not-is_permitted : goal.returns-then-not-is_permitted
returns-then-not-is_permitted c =
    let at = c.args.at.now in
    not_permitted (facts_of at) at.moment at.queued.now at.planned.now at.run at.stage
    (sym c.is_permitted.ensures ∙ c.if-not-is_permitted.true)

pub returns-then-not-branch : goal.returns-then-not-branch
returns-then-not-branch c =
    let at = c.args.at.now in
    not_held (facts_of at) at.moment at.queued.now at.planned.now at.run at.stage
    (sym c.in_ok-stage_says.ensures ∙ c.if-not-branch.true)

pub returns : goal.returns
returns c =
    let at = c.args.at.now in
    let facts = facts_of at in
    eligible_if (facts_of at) at.moment at.queued.now at.planned.now at.run at.stage
    (c.judgement_laws.ensures.one (all_checks facts at.planned.now.uses)
    (check_view at.queued.now at.planned.now at.run at.stage facts) at.moment)
    c.in_ok-judgement.field-0 c.in_ok-judgement.ensures c.passes.result c.passes.ensures
    (sym c.is_waiting.ensures ∙ c.if-not-is_waiting.false)
    (sym c.is_permitted.ensures ∙ c.if-not-is_permitted.false)
    (sym c.in_ok-stage_says.ensures ∙ c.if-not-branch.false)
