use Rattle.std.proofs.Common.{◌≤◌, ap, subst, sym, ◌∙◌}
use Rattle.pl_checks.specs.declared.view.CheckView.{CheckView}
use Rattle.pl_cond.proofs.Roots.{if_ok}
use Rattle.pl_judgement.specs.Said.{IsJudgement}
use Rattle.pl_views.specs.CheckViews.{check_view}
use Rattle.pl_due.specs.Asked.{facts_of}
use Rattle.pl_due.specs.Checked.{all_checks, are_unguarded}
use Rattle.pl_due.specs.Fit.{last_moment}
use Rattle.pl_due.proofs.Asking.{judged_nothing}
use Rattle.pl_due.proofs.Fits.{moments_within}
use Rattle.pl_due.proofs.judging.judgement.Goals as goal

pub returns-then-are_unguarded : goal.returns-then-are_unguarded
returns-then-are_unguarded c =
    let at = c.args.at.now in
    let facts = facts_of at in
    judged_nothing facts (check_view at.queued.now at.planned.now at.run at.stage facts) at.moment
    at.planned.now.uses c.new.result
    (sym (c.are_unguarded.ensures ∙ ap (are_unguarded facts) c.as_slice.ensures)
    ∙ c.if-are_unguarded.true) c.new.ensures.fail c.new.ensures.wait

pub ask_all-requires-clause-ready : goal.ask_all-requires-clause-ready
ask_all-requires-clause-ready c =
    let at = c.args.at.now in
    subst (λ n. n ≤ last_moment) (sym (ap (λ (view : CheckView). view.ready) c.in_ok-view.ensures))
    (c.readiness_laws.ensures.within at.planned.now at.run last_moment (facts_of at)
    (moments_within (facts_of at) c.requires.fit))

pub returns : goal.returns
returns c =
    let at = c.args.at.now in
    if_ok _ _ c.ask_all.result (λ judgement is. subst (λ (view : CheckView).
    IsJudgement (all_checks (facts_of at) at.planned.now.uses) view at.moment judgement)
    c.in_ok-view.ensures is) c.ask_all.ensures
