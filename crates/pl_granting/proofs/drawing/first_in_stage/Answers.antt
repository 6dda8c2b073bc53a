use Rattle.std.proofs.Common.{sym, ◌∙◌, subst}
use Rattle.pl_due.specs.Scans.{IsFirstTrue}
use Rattle.pl_granting.specs.Drawn.{Least}
use Rattle.pl_granting.specs.Tests.{OfStage, may_take_at}
use Rattle.pl_granting.proofs.LeastJob.{stage_found, stage_none}
use Rattle.pl_granting.proofs.drawing.first_in_stage.Goals as goal

pub returns-in-Some : goal.returns-in-Some
returns-in-Some c =
    let facts = c.args.journal.now.facts in
    let agent = c.args.agent.now in
    let queued = c.args.queued.now in
    let staged = c.args.staged.now in
    subst (Least (OfStage facts agent c.args.run c.args.stage)) (sym c.job_in.ensures)
    (stage_found facts agent c.args.run c.args.stage queued staged c.requires.there c.requires.idle
    (sym c.is_at_work.ensures ∙ c.if-not-is_at_work.false) c.in-Some.job
    (subst (IsFirstTrue (may_take_at facts agent c.args.run c.args.stage queued staged))
    c.in-Some.is c.first_place.ensures))

pub returns-in-None : goal.returns-in-None
returns-in-None c =
    let facts = c.args.journal.now.facts in
    let agent = c.args.agent.now in
    let queued = c.args.queued.now in
    let staged = c.args.staged.now in
    stage_none facts agent c.args.run c.args.stage queued staged c.requires.there
    (subst (IsFirstTrue (may_take_at facts agent c.args.run c.args.stage queued staged))
    c.in-None.is c.first_place.ensures)
