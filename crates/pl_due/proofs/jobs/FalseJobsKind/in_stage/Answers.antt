use Rattle.std.proofs.Common.{ap, subst, sym, ◌∙◌}
use Rattle.pl_due.specs.Asked.{facts_of}
use Rattle.pl_due.specs.Kinds.{false_job_end}
use Rattle.pl_due.specs.Scans.{IsFirstTrue}
use Rattle.pl_due.specs.Tests.{is_passed_over}
use Rattle.pl_due.proofs.Judged.{false_idle, false_none, false_some}
use Rattle.pl_due.proofs.jobs.FalseJobsKind.in_stage.Goals as goal

pub returns-then-not-is_running : goal.returns-then-not-is_running
returns-then-not-is_running c =
    let at = c.args.at.now in
    false_idle (facts_of at) at.moment at.queued.now at.planned.now at.run at.stage
    (sym c.is_running.ensures ∙ c.if-not-is_running.true)

pub returns-in_ok-false_job_end-in-Some : goal.returns-in_ok-false_job_end-in-Some
returns-in_ok-false_job_end-in-Some c =
    let at = c.args.at.now in
    false_some (facts_of at) at.moment at.queued.now at.planned.now at.run at.stage
    c.in-Some.job c.in_ok-false_job_end-in-Some.field-0
    (sym c.is_running.ensures ∙ c.if-not-is_running.false)
    (subst (IsFirstTrue (is_passed_over at)) c.in-Some.is c.in_ok-job.ensures)
    (c.in_ok-false_job_end-in-Some.ensures
    ∙ ap (λ b. false_job_end b at.run at.stage c.in-Some.job) c.is_canceled-canceled.ensures)

pub returns-in-None : goal.returns-in-None
returns-in-None c =
    let at = c.args.at.now in
    false_none (facts_of at) at.moment at.queued.now at.planned.now at.run at.stage
    (subst (IsFirstTrue (is_passed_over at)) c.in-None.is c.in_ok-job.ensures)
