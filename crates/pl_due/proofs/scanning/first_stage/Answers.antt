use Rattle.std.proofs.Common.{None, get_or, refl, subst, sym}
use Rattle.std.proofs.lemmas.List.{drop_all, get_or_default}
use Rattle.pl_due.specs.Least.{OfStages}
use Rattle.pl_due.specs.Open.{at_place}
use Rattle.pl_due.specs.Scans.{FirstJob, FirstStage}
use Rattle.pl_due.proofs.Scanned.{turn_none, turn_some}
use Rattle.pl_due.proofs.scanning.first_stage.Goals as goal

pub loop-place-init : goal.loop-place-init
loop-place-init g c = λ found first. first

pub returns-in-Some : goal.returns-in-Some
returns-in-Some g c =
    let facts = c.args.journal.now.facts in
    let kind = g.K.Kind.of c.args.kind.now facts c.args.moment in
    let places = c.args.places.now in
    let at = get_or places c.loop-place.place-index (at_place 0 0) in
    turn_some facts kind places c.loop-place.place-index at c.in-Some.event c.loop-place-test.true
    (get_or_default places c.loop-place.place-index (at_place 0 0) at c.loop-place-test.true)
    (subst (FirstJob (OfStages facts kind at.run at.stage)) c.in-Some.is c.in_ok-event.ensures)
    c.loop-place.invariant

pub loop-place-preserved : goal.loop-place-preserved
loop-place-preserved g c =
    let facts = c.args.journal.now.facts in
    let kind = g.K.Kind.of c.args.kind.now facts c.args.moment in
    let places = c.args.places.now in
    let at = get_or places c.loop-place.place-index (at_place 0 0) in
    turn_none facts kind places c.loop-place.place-index at c.loop-place-test.true
    (get_or_default places c.loop-place.place-index (at_place 0 0) at c.loop-place-test.true)
    (subst (FirstJob (OfStages facts kind at.run at.stage)) c.in_default.is c.in_ok-event.ensures)
    c.loop-place.invariant

pub returns : goal.returns
returns g c =
    let facts = c.args.journal.now.facts in
    let kind = g.K.Kind.of c.args.kind.now facts c.args.moment in
    c.loop-place.invariant None (subst (λ left. FirstStage facts kind left None)
    (sym (drop_all c.loop-place.place-index c.args.places.now c.loop-place-test.false)) refl)
