use Rattle.std.proofs.Common.{get_or, ◌∙◌}
use Rattle.std.proofs.lemmas.List.{get_or_default}
use Rattle.std.proofs.lemmas.List.Elements.{Contains-get_or}
use Rattle.pl_due.specs.Kinds.{IsPassedOver}
use Rattle.pl_due.specs.Open.{at_place}
use Rattle.pl_due.proofs.Once.{at_first, at_last, no_more, one_more, some_fails}
use Rattle.pl_due.proofs.Scanned.{none_among}
use Rattle.pl_due.proofs.verdicts.all_judged.Goals.{in-Some-picked+in_ok-push, in_default-picked}
use Rattle.pl_due.proofs.verdicts.all_judged.Goals as goal

pub loop-place-init : goal.loop-place-init
loop-place-init c = at_first c.args.journal.now.facts c.args.moment c.args.places.now
    c.new-eligible.result c.new-eligible.ensures

pub judged_at-requires-clause-says : goal.judged_at-requires-clause-says
judged_at-requires-clause-says c =
    let facts = c.args.journal.now.facts in
    let places = c.args.places.now in
    none_among facts (IsPassedOver facts) places c.requires.says
    (get_or places c.loop-place.place-index (at_place 0 0))
    (Contains-get_or places c.loop-place.place-index (at_place 0 0) c.loop-place-test.true)

pub returns-in-Some : goal.returns-in-Some
returns-in-Some c =
    let facts = c.args.journal.now.facts in
    let places = c.args.places.now in
    let i = c.loop-place.place-index in
    let at = get_or places i (at_place 0 0) in
    some_fails facts c.args.moment places i at c.loop-place-test.true
    (get_or_default places i (at_place 0 0) at c.loop-place-test.true) c.loop-place.eligible
    c.loop-place.invariant c.in_ok-fails.field-0.fails c.in_ok-fails.field-0.picked
    c.in_ok-fails.ensures c.in-Some.event c.loop-place.eligible c.in-Some.is

pub loop-place-preserved : goal.loop-place-preserved
loop-place-preserved c =
    let facts = c.args.journal.now.facts in
    let places = c.args.places.now in
    let i = c.loop-place.place-index in
    let at = get_or places i (at_place 0 0) in
    let within = c.loop-place-test.true in
    let is = get_or_default places i (at_place 0 0) at within in
    let old = c.loop-place.eligible in
    let told = c.in_ok-fails.ensures in
    let fails = c.in_ok-fails.field-0.fails in
    let picked = c.in_ok-fails.field-0.picked in
    elim c.match-picked-2.branch [
      | in-Some-picked+in_ok-push w ↦
          one_more facts c.args.moment places i at within is old c.loop-place.invariant fails picked
          told w.in-Some-picked.stage c.match-picked-2.eligible c.in_default.is w.in-Some-picked.is
          (w.eligible-is ∙ w.in_ok-push.ensures.ok)
      | in_default-picked w ↦
          no_more facts c.args.moment places i at within is old c.loop-place.invariant fails picked
          told c.match-picked-2.eligible c.in_default.is w.in_default-picked.is w.eligible-is
    ]

pub returns : goal.returns
returns c = at_last c.args.journal.now.facts c.args.moment c.args.places.now
    c.loop-place.place-index c.loop-place.eligible c.loop-place-test.false c.loop-place.invariant
