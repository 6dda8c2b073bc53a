use Rattle.std.proofs.Common.{Some, None, get_or, ap, sym, ◌∙◌}
use Rattle.std.specs.Option.{option_map}
use Rattle.pl_plan.specs.declared.plan.PlanStage.{PlanStage}
use Rattle.pl_results.specs.Parts.{stage_part_at, stage_part_of}
use Rattle.pl_results.proofs.Turns.{number_none, number_some}
use Rattle.pl_results.proofs.parts.stage_parts.Goals.{in-Some+in_ok-stage_part_of+in_ok-push}
use Rattle.pl_results.proofs.parts.stage_parts.Goals.{in_default}
use Rattle.pl_results.proofs.parts.stage_parts.Goals as goal

pub loop-at-preserved : goal.loop-at-preserved
loop-at-preserved c =
    let h = stage_part_at c.args.plan.now c.args.view.now in
    let xs = c.as_slice-at-items.result.now in
    elim c.match-get.branch [
      | in-Some+in_ok-stage_part_of+in_ok-push w ↦ number_some h xs c.loop-at.at-index
          w.in_ok-stage_part_of.field-0 c.loop-at.parts c.match-get.parts c.loop-at-test.true
          c.loop-at.invariant
          (ap (option_map (stage_part_of c.args.view.now (get_or xs c.loop-at.at-index 0)))
          (sym w.in-Some.ensures.value)
          ∙ ap (λ part. Some part) (sym w.in_ok-stage_part_of.ensures))
          (w.parts-is ∙ w.in_ok-push.ensures.ok)
      | in_default w ↦ number_none h xs c.loop-at.at-index c.loop-at.parts c.match-get.parts
          c.loop-at-test.true c.loop-at.invariant
          (ap (option_map (stage_part_of c.args.view.now (get_or xs c.loop-at.at-index 0)))
          (sym w.in_default.ensures.value)) w.parts-is
    ]
