use Rattle.std.proofs.Common.{Some, None, get_or, ap, sym, ◌∙◌}
use Rattle.std.specs.Option.{option_map}
use Rattle.pl_results.specs.declared.parts.Group.{Group}
use Rattle.pl_results.specs.Parts.{group_at, group_of}
use Rattle.pl_results.proofs.Turns.{number_none, number_some}
use Rattle.pl_results.proofs.parts.stage_groups.Goals.{in-Some+in_ok-group_of+in_ok-push}
use Rattle.pl_results.proofs.parts.stage_groups.Goals.{in_default}
use Rattle.pl_results.proofs.parts.stage_groups.Goals as goal

pub loop-at-preserved : goal.loop-at-preserved
loop-at-preserved c =
    let h = group_at c.args.plan.now c.args.view.now in
    let xs = c.as_slice-at-items.result.now in
    let x = get_or xs c.loop-at.at-index 0 in
    elim c.match-get.branch [
      | in-Some+in_ok-group_of+in_ok-push w ↦ number_some h xs c.loop-at.at-index
          w.in_ok-group_of.field-0 c.loop-at.groups c.match-get.groups c.loop-at-test.true
          c.loop-at.invariant
          (ap (option_map (group_of c.args.view.now x)) (sym w.in-Some.ensures.value)
          ∙ ap (λ (group : Group). Some group) (sym w.in_ok-group_of.ensures))
          (w.groups-is ∙ w.in_ok-push.ensures.ok)
      | in_default w ↦ number_none h xs c.loop-at.at-index c.loop-at.groups c.match-get.groups
          c.loop-at-test.true c.loop-at.invariant
          (ap (option_map (group_of c.args.view.now x)) (sym w.in_default.ensures.value))
          w.groups-is
    ]
