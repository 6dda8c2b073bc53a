use Rattle.std.proofs.Common.{refl, ap, ◌∙◌}
use Rattle.pl_depends.specs.Places.{also, places_under, stage_entries, under}
use Rattle.pl_depends.proofs.Found.{stage_more, found_none, found_all}
use Rattle.pl_depends.proofs.places.stage_places.Goals as goal

pub loop-at-init : goal.loop-at-init
loop-at-init c = found_none (stage_entries 0 c.args.stages.now) (under c.no_places-places.result)
    c.no_places-places.ensures

pub loop-at-preserved : goal.loop-at-preserved
loop-at-preserved c =
    let item = c.index-stages-at.result in
    stage_more c.args.stages.now c.loop-at.at item (under c.loop-at.places) (under c.put.new.places)
    c.loop-at-test.true c.index-stages-at.is c.loop-at.invariant
    (c.in_ok-put.ensures ∙ ap (also (under c.loop-at.places) item.name) c.in_ok-one_place.ensures)

pub returns : goal.returns
returns c = found_all (stage_entries c.loop-at.at) c.args.stages.now c.loop-at.at
    (places_under (stage_entries 0 c.args.stages.now)) (under c.loop-at.places) c.loop-at-test.false
    refl
    c.loop-at.invariant
