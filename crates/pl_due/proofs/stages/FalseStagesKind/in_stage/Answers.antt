use Rattle.std.proofs.Common.{ap, sym, ◌∙◌}
use Rattle.pl_due.specs.Asked.{facts_of}
use Rattle.pl_due.specs.Kinds.{false_stage_end}
use Rattle.pl_due.proofs.Judged.{not_false, passed_idle, passed_some}
use Rattle.pl_due.proofs.stages.FalseStagesKind.in_stage.Goals as goal

pub returns-then-not-is_waiting : goal.returns-then-not-is_waiting
returns-then-not-is_waiting c =
    let at = c.args.at.now in
    passed_idle (facts_of at) at.moment at.queued.now at.planned.now at.run at.stage
    (sym c.is_waiting.ensures ∙ c.if-not-is_waiting.true)

pub returns-then-branch : goal.returns-then-branch
returns-then-branch c =
    let at = c.args.at.now in
    not_false (facts_of at) at.moment at.queued.now at.planned.now at.run at.stage
    (sym c.in_ok-stage_says.ensures ∙ c.if-branch.true)

pub returns : goal.returns
returns c =
    let at = c.args.at.now in
    passed_some (facts_of at) at.moment at.queued.now at.planned.now at.run at.stage
    c.in_ok-false_stage_end.field-0 (sym c.is_waiting.ensures ∙ c.if-not-is_waiting.false)
    (sym c.in_ok-stage_says.ensures ∙ c.if-branch.false)
    (c.in_ok-false_stage_end.ensures
    ∙ ap (λ b. false_stage_end b at.run at.stage) c.is_canceled-canceled.ensures)
