use Rattle.std.proofs.Common.{◌&&◌, not, ap, sym, ◌∙◌}
use Rattle.pl_results.specs.declared.members.PlanNode.TheVariants.{Job}
use Rattle.pl_due.specs.Asked.{facts_of}
use Rattle.pl_due.specs.Nodes.{condition}
use Rattle.pl_due.specs.Tests.{awaits}
use Rattle.pl_due.proofs.Judged.{not_passed}
use Rattle.pl_due.proofs.jobs.is_false.Goals as goal

pub returns-then-not-awaits_agent : goal.returns-then-not-awaits_agent
returns-then-not-awaits_agent c =
    let at = c.args.at.now in
    sym (not_passed (awaits at c.args.job)
    (condition at.queued.now at.run (Job at.stage c.args.job) (facts_of at))
    (sym c.awaits_agent.ensures ∙ c.if-not-awaits_agent.true))

pub returns : goal.returns
returns c =
    let at = c.args.at.now in
    let says = condition at.queued.now at.run (Job at.stage c.args.job) (facts_of at) in
    ap not c.in_ok-job_says.ensures
    ∙ sym (ap (λ b. b && not says) (sym c.awaits_agent.ensures ∙ c.if-not-awaits_agent.false))
