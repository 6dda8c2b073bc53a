use Rattle.std.proofs.Common.{◌≡◌, Some, None, get_or, ap, sym, ◌∙◌}
use Rattle.std.specs.Option.{option_map}
use Rattle.pl_plan.specs.declared.plan.PlanStage.{PlanStage}
use Rattle.pl_results.specs.Members.{member, stage_member}
use Rattle.pl_results.specs.Runs.{result_at}
use Rattle.pl_results.proofs.Turns.{number_none, number_some}
use Rattle.pl_results.proofs.members.stage_members.Goals.{in-Some+in_ok-name+in_ok-push, in_default}
use Rattle.pl_results.proofs.members.stage_members.Goals as goal

pub loop-place-preserved : goal.loop-place-preserved
loop-place-preserved c =
    let h = stage_member c.args.plan.now c.args.view.now in
    let xs = c.as_slice-place-items.result.now in
    let x = get_or xs c.loop-place.place-index 0 in
    let views = c.args.view.now.stages in
    elim c.match-get.branch [
      | in-Some+in_ok-name+in_ok-push w ↦
          let ended = w.result_at-result.ensures
          ∙ ap (λ rs. result_at rs x) w.as_slice-in-Some.ensures in
          number_some h xs c.loop-place.place-index
          (member w.in_ok-name.name w.result_at-result.result) c.loop-place.members
          c.match-get.members c.loop-place-test.true c.loop-place.invariant
          (ap (option_map (λ (stage : PlanStage). member stage.name (result_at views x)))
          (sym w.in-Some.ensures.value)
          ∙ (λ i. Some (member (sym w.in_ok-name.ensures i) (sym ended i))))
          (w.members-is ∙ w.in_ok-push.ensures.ok)
      | in_default w ↦ number_none h xs c.loop-place.place-index c.loop-place.members
          c.match-get.members c.loop-place-test.true c.loop-place.invariant
          (ap (option_map (λ (stage : PlanStage). member stage.name (result_at views x)))
          (sym w.in_default.ensures.value)) w.members-is
    ]
