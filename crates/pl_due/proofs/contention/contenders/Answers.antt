use Rattle.std.proofs.Common.{[], get_or, refl, subst, sym, ◌++◌, ◌∙◌}
use Rattle.std.proofs.lemmas.List.{append-nil, drop_all, get_or_default}
use Rattle.pl_due.specs.Open.{at_place}
use Rattle.pl_due.specs.Scans.{IsPicked, Picked}
use Rattle.pl_due.proofs.Picking.{picked_none, picked_some}
use Rattle.pl_due.proofs.contention.contenders.Goals.{in-Some+in_ok-push, in_default}
use Rattle.pl_due.proofs.contention.contenders.Goals as goal

pub loop-place-init : goal.loop-place-init
loop-place-init g c = λ rest picked.
    let facts = c.args.journal.now.facts in
    let P = g.H.Holding.of c.args.holding.now facts c.args.moment in
    subst (λ front. Picked facts P c.args.places.now (front ++ rest)) (sym c.new-picked.ensures)
    picked

pub loop-place-preserved : goal.loop-place-preserved
loop-place-preserved g c =
    let facts = c.args.journal.now.facts in
    let P = g.H.Holding.of c.args.holding.now facts c.args.moment in
    let places = c.args.places.now in
    let i = c.loop-place.place-index in
    let at = get_or places i (at_place 0 0) in
    let is = get_or_default places i (at_place 0 0) at c.loop-place-test.true in
    elim c.match-branch-2.branch [
      | in-Some+in_ok-push w ↦
          picked_some facts P places i at w.in-Some.one c.loop-place.picked c.match-branch-2.picked
          c.loop-place-test.true is
          (subst (IsPicked facts P at.run at.stage) w.in-Some.is c.in_ok-one.ensures)
          (w.picked-is ∙ w.in_ok-push.ensures.ok) c.loop-place.invariant
      | in_default w ↦
          picked_none facts P places i at c.loop-place.picked c.match-branch-2.picked
          c.loop-place-test.true is
          (subst (IsPicked facts P at.run at.stage) w.in_default.is c.in_ok-one.ensures)
          w.picked-is c.loop-place.invariant
    ]

pub returns : goal.returns
returns g c =
    let facts = c.args.journal.now.facts in
    let P = g.H.Holding.of c.args.holding.now facts c.args.moment in
    subst (Picked facts P c.args.places.now) (append-nil c.loop-place.picked)
    (c.loop-place.invariant [] (subst (λ left. Picked facts P left [])
    (sym (drop_all c.loop-place.place-index c.args.places.now c.loop-place-test.false)) refl))
