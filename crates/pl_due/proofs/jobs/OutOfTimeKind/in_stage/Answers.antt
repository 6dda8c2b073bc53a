use Rattle.std.proofs.Common.{sym, ◌∙◌}
use Rattle.pl_due.specs.Asked.{facts_of}
use Rattle.pl_due.proofs.Judged.{timed_idle, timed_none, timed_some}
use Rattle.pl_due.proofs.jobs.OutOfTimeKind.in_stage.Goals as goal

pub returns-then-not-is_running : goal.returns-then-not-is_running
returns-then-not-is_running c =
    let at = c.args.at.now in
    timed_idle (facts_of at) at.moment at.queued.now at.planned.now at.run at.stage
    (sym c.is_running.ensures ∙ c.if-not-is_running.true)

pub returns-in_ok-timeout_end-in-Some : goal.returns-in_ok-timeout_end-in-Some
returns-in_ok-timeout_end-in-Some c =
    let at = c.args.at.now in
    timed_some (facts_of at) at.moment at.queued.now at.planned.now at.run at.stage
    c.in-Some.job c.in_ok-timeout_end-in-Some.field-0
    (sym c.is_running.ensures ∙ c.if-not-is_running.false) c.in-Some.ensures
    c.in_ok-timeout_end-in-Some.ensures

pub returns-in-None : goal.returns-in-None
returns-in-None c =
    let at = c.args.at.now in
    timed_none (facts_of at) at.moment at.queued.now at.planned.now at.run at.stage
    c.in-None.ensures
