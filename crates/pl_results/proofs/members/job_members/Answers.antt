use Rattle.std.proofs.Common.{◌≡◌, Some, None, get_or, ap, sym, ◌∙◌}
use Rattle.std.specs.Prelude.{slice_get}
use Rattle.std.specs.Option.{option_map}
use Rattle.pl_plan.specs.declared.plan.PlanJob.{PlanJob}
use Rattle.pl_results.specs.Members.{job_member, member}
use Rattle.pl_results.specs.Runs.{view_result}
use Rattle.pl_results.proofs.Turns.{number_none, number_some}
use Rattle.pl_results.proofs.members.job_members.Goals.{in-Some+in_ok-name+in_ok-push, in_default}
use Rattle.pl_results.proofs.members.job_members.Goals as goal

pub loop-place-preserved : goal.loop-place-preserved
loop-place-preserved c =
    let h = job_member c.args.jobs.now c.args.views.now in
    let xs = c.as_slice-place-items.result.now in
    let x = get_or xs c.loop-place.place-index 0 in
    let views = c.args.views.now in
    elim c.match-job_at.branch [
      | in-Some+in_ok-name+in_ok-push w ↦
          number_some h xs c.loop-place.place-index
          (member w.in_ok-name.name w.view_result-result.result) c.loop-place.members
          c.match-job_at.members c.loop-place-test.true c.loop-place.invariant
          (ap (option_map (λ (job : PlanJob). member job.name (view_result (slice_get views x))))
          (sym w.in-Some.ensures)
          ∙ (λ i. Some (member (sym w.in_ok-name.ensures i) (sym w.view_result-result.ensures i))))
          (w.members-is ∙ w.in_ok-push.ensures.ok)
      | in_default w ↦ number_none h xs c.loop-place.place-index c.loop-place.members
          c.match-job_at.members c.loop-place-test.true c.loop-place.invariant
          (ap (option_map (λ (job : PlanJob). member job.name (view_result (slice_get views x))))
          (sym w.in_default.ensures)) w.members-is
    ]
