use Rattle.std.proofs.Common.{refl, ap, ◌∙◌}
use Rattle.pl_depends.specs.Places.{also, places_under, job_entries, under}
use Rattle.pl_depends.proofs.Found.{job_more, found_none, found_all}
use Rattle.pl_depends.proofs.places.job_places.Goals as goal

pub loop-at-init : goal.loop-at-init
loop-at-init c = found_none (job_entries 0 c.args.jobs.now) (under c.no_places-places.result)
    c.no_places-places.ensures

pub loop-at-preserved : goal.loop-at-preserved
loop-at-preserved c =
    let item = c.index-jobs-at.result in
    job_more c.args.jobs.now c.loop-at.at item (under c.loop-at.places) (under c.put.new.places)
    c.loop-at-test.true c.index-jobs-at.is c.loop-at.invariant
    (c.in_ok-put.ensures ∙ ap (also (under c.loop-at.places) item.name) c.in_ok-one_place.ensures)

pub returns : goal.returns
returns c = found_all (job_entries c.loop-at.at) c.args.jobs.now c.loop-at.at
    (places_under (job_entries 0 c.args.jobs.now)) (under c.loop-at.places) c.loop-at-test.false
    refl
    c.loop-at.invariant
