use Rattle.std.proofs.Common.{ap, ◌∙◌}
use Rattle.pl_plan.specs.declared.plan.Compiled.{Compiled}
use Rattle.pl_results.specs.declared.members.PlanNode.TheVariants.{Job}
use Rattle.pl_views.specs.RunViews.{run_view}
use Rattle.pl_due.specs.Asked.{facts_of}
use Rattle.pl_due.specs.Nodes.{condition}
use Rattle.pl_due.specs.Tests.{awaits}
use Rattle.pl_due.proofs.Judged.{not_passed}
use Rattle.pl_due.proofs.jobs.first_passed_over.Goals as goal

pub first_false-requires-clause-view : goal.first_false-requires-clause-view
first_false-requires-clause-view c =
    let at = c.args.at.now in
    c.in_ok-view-in-Some.ensures
    ∙ ap (λ (one : Compiled). run_view one.plan at.run (facts_of at)) c.deref.ensures

pub first_false-requires-clause-before : goal.first_false-requires-clause-before
first_false-requires-clause-before c = c.in-Some.ensures

pub returns-in-None : goal.returns-in-None
returns-in-None c = λ job.
    let at = c.args.at.now in
    not_passed (awaits at job) (condition at.queued.now at.run (Job at.stage job) (facts_of at))
    (c.in-None.ensures job)
