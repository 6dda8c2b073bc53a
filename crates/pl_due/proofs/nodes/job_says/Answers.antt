use Rattle.std.proofs.Common.{◌<◌, length, ap, subst, sym, ◌∙◌}
use Rattle.pl_cond.proofs.Roots.{if_ok}
use Rattle.pl_cond.specs.Conditions.{holds}
use Rattle.pl_plan.specs.declared.plan.Compiled.{Compiled}
use Rattle.pl_plan.specs.declared.plan.PlanJob.{PlanJob}
use Rattle.std.proofs.Common.{List}
use Rattle.pl_results.specs.Nodes.{CanRun, jobs_of}
use Rattle.pl_results.specs.declared.members.PlanNode.TheVariants.{Job}
use Rattle.pl_results.specs.declared.view.RunView.{RunView}
use Rattle.pl_due.proofs.Fits.{asked_jobs, asked_runs, asked_within}
use Rattle.pl_due.proofs.nodes.job_says.Goals as goal

pub job_condition-requires-clause-runs : goal.job_condition-requires-clause-runs
job_condition-requires-clause-runs c = subst (λ (one : Compiled). CanRun one.plan)
    (sym c.deref.ensures) (asked_runs c.args.at.now c.requires.asked)

pub job_condition-requires-clause-stage : goal.job_condition-requires-clause-stage
job_condition-requires-clause-stage c =
    subst (λ (one : Compiled). c.args.at.now.stage < length one.plan.stages)
    (sym c.deref.ensures) (asked_within c.args.at.now c.requires.asked)

pub job_condition-requires-clause-job : goal.job_condition-requires-clause-job
job_condition-requires-clause-job c =
    let at = c.args.at.now in
    subst (λ (one : Compiled). c.args.job < length (jobs_of one.plan at.stage))
    (sym c.deref.ensures)
    (subst (λ (jobs : List PlanJob). c.args.job < length jobs)
    (sym (asked_jobs at c.requires.asked)) c.requires.within)

pub returns : goal.returns
returns c =
    let at = c.args.at.now in
    let node = Job at.stage c.args.job in
    if_ok _ _ c.job_condition.result (λ says is. is
    ∙ ap (λ (one : Compiled). holds one.plan c.args.view.now node) c.deref.ensures
    ∙ ap (λ (view : RunView). holds at.queued.now.compiled.plan view node) c.requires.view)
    c.job_condition.ensures
