use Rattle.std.proofs.Common.{sym, ap, ◌∙◌}
use Rattle.std.specs.List.{find}
use Rattle.pl_plan.specs.declared.plan.PlanStage.{PlanStage}
use Rattle.pl_queueing.specs.Queueing.{is_unknown, unknown_use}
use Rattle.pl_queueing.proofs.Searching.{found_here, found_later}
use Rattle.pl_queueing.proofs.queueing.unknown_use.Goals as goal

pub returns-in-Some : goal.returns-in-Some
returns-in-Some c =
    let facts = c.args.journal.now.facts in
    found_here (is_unknown facts) (λ (planned : PlanStage). planned.uses) c.args.stages.now
    c.loop-planned.planned-index (unknown_use facts c.args.stages.now) c.loop-planned.invariant
    c.planned-item.result c.in-Some.key.now c.loop-planned-test.true c.planned-item.is
    (ap (find (is_unknown facts)) (sym c.as_slice.ensures) ∙ sym c.in-Some.ensures)

pub loop-planned-preserved : goal.loop-planned-preserved
loop-planned-preserved c =
    let facts = c.args.journal.now.facts in
    found_later (is_unknown facts) (λ (planned : PlanStage). planned.uses) c.args.stages.now
    c.loop-planned.planned-index (unknown_use facts c.args.stages.now) c.loop-planned.invariant
    c.planned-item.result c.loop-planned-test.true c.planned-item.is
    (ap (find (is_unknown facts)) (sym c.as_slice.ensures) ∙ sym c.in_default.ensures)
