use Rattle.std.proofs.Common.{Some, None, get_or, ap, sym, ◌∙◌}
use Rattle.std.specs.Prelude.{slice_get}
use Rattle.std.specs.Option.{option_map}
use Rattle.pl_plan.specs.declared.plan.PlanJob.{PlanJob}
use Rattle.pl_results.specs.declared.legs.Leg.{Leg}
use Rattle.pl_results.specs.Parts.{leg_at, leg_of}
use Rattle.pl_results.proofs.Turns.{number_none, number_some}
use Rattle.pl_results.proofs.legs.legs_at.Goals.{in-Some+in_ok-leg_of+in_ok-push, in_default}
use Rattle.pl_results.proofs.legs.legs_at.Goals as goal

pub loop-at-preserved : goal.loop-at-preserved
loop-at-preserved c =
    let h = leg_at c.args.form c.args.jobs.now c.args.views.now in
    let xs = c.args.places.now in
    let x = get_or xs c.loop-at.at-index 0 in
    let views = c.args.views.now in
    elim c.match-job_at.branch [
      | in-Some+in_ok-leg_of+in_ok-push w ↦ number_some h xs c.loop-at.at-index
          w.in_ok-leg_of.field-0 c.loop-at.legs c.match-job_at.legs c.loop-at-test.true
          c.loop-at.invariant
          (ap (option_map (λ (job : PlanJob). leg_of c.args.form job (slice_get views x)))
          (sym w.in-Some.ensures)
          ∙ ap (λ (leg : Leg). Some leg) (sym w.in_ok-leg_of.ensures))
          (w.legs-is ∙ w.in_ok-push.ensures.ok)
      | in_default w ↦ number_none h xs c.loop-at.at-index c.loop-at.legs c.match-job_at.legs
          c.loop-at-test.true c.loop-at.invariant
          (ap (option_map (λ (job : PlanJob). leg_of c.args.form job (slice_get views x)))
          (sym w.in_default.ensures)) w.legs-is
    ]
