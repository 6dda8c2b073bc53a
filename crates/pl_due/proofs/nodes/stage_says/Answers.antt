use Rattle.std.proofs.Common.{◌<◌, length, ap, subst, sym, ◌∙◌}
use Rattle.pl_cond.proofs.Roots.{if_ok}
use Rattle.pl_cond.specs.Conditions.{holds}
use Rattle.pl_plan.specs.declared.plan.Compiled.{Compiled}
use Rattle.pl_results.specs.Nodes.{CanRun}
use Rattle.pl_results.specs.declared.members.PlanNode.TheVariants.{Stage}
use Rattle.pl_results.specs.declared.view.RunView.{RunView}
use Rattle.pl_views.specs.RunViews.{run_view}
use Rattle.pl_due.specs.Asked.{facts_of}
use Rattle.pl_due.proofs.Fits.{asked_runs, asked_within}
use Rattle.pl_due.proofs.nodes.stage_says.Goals as goal

pub stage_condition-requires-clause-runs : goal.stage_condition-requires-clause-runs
stage_condition-requires-clause-runs c = subst (λ (one : Compiled). CanRun one.plan)
    (sym c.deref.ensures) (asked_runs c.args.at.now c.requires)

pub stage_condition-requires-clause-within : goal.stage_condition-requires-clause-within
stage_condition-requires-clause-within c =
    subst (λ (one : Compiled). c.args.at.now.stage < length one.plan.stages)
    (sym c.deref.ensures) (asked_within c.args.at.now c.requires)

pub returns : goal.returns
returns c =
    let at = c.args.at.now in
    let node = Stage at.stage in
    let plan = c.deref.result.now.plan in
    if_ok _ _ c.stage_condition.result (λ says is. is
    ∙ ap (λ (view : RunView). holds plan view node) c.in_ok-view.ensures
    ∙ ap (λ (one : Compiled). holds one.plan (run_view one.plan at.run (facts_of at)) node)
    c.deref.ensures) c.stage_condition.ensures
