use Rattle.std.proofs.Common.{List, ℕ, ◌≡◌, ◌++◌, ap, sym, ◌∙◌}
use Rattle.pl_plan_report.proofs.Parting.{no_name_more, one_name_more}
use Rattle.pl_plan_report.proofs.names.push_parted.Goals as goal
use Rattle.pl_plan_report.proofs.names.push_parted.Goals.{in_default}
use Rattle.pl_plan_report.proofs.names.push_parted.Goals.{in-Some+in_ok-push_str+in_ok-push_within}

pub loop-place-preserved : goal.loop-place-preserved
loop-place-preserved c =
    elim c.match-get.branch [
      | in-Some+in_ok-push_str+in_ok-push_within w ↦
          one_name_more c.args.text.now c.args.names.now c.args.places.now
          c.loop-place.place-index w.in-Some.name.now c.loop-place.text c.loop-place.before.now
          c.match-get.text c.match-get.before.now c.loop-place-test.true w.in-Some.ensures.value
          c.loop-place.invariant
          (w.text-is ∙ (w.in_ok-push_within.ensures.ok
          ∙ (ap (λ (end : List ℕ). w.push_str.new.self ++ end) w.as_str.ensures
          ∙ ap (λ (start : List ℕ). start ++ w.in-Some.name.now) w.in_ok-push_str.ensures.ok)))
          (λ i. (w.before-is i).now)
      | in_default w ↦
          no_name_more c.args.text.now c.args.names.now c.args.places.now
          c.loop-place.place-index c.loop-place.text c.loop-place.before.now
          c.match-get.text c.match-get.before.now c.loop-place-test.true
          w.in_default.ensures.value c.loop-place.invariant w.text-is (λ i. (w.before-is i).now)
    ]
