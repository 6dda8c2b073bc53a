use Rattle.std.proofs.Common.{◌≡◌, ◌+◌, refl, ap, ◌∙◌, arith}
use Rattle.std.proofs.lemmas.Grind.{common_steps}
use Rattle.pl_depends.specs.Places.{also, places_from, places_under, leg_entries, under}
use Rattle.pl_depends.proofs.Found.{leg_more, found_none, found_all}
use Rattle.pl_depends.proofs.places.leg_places.Goals as goal

pub loop-job-init : goal.loop-job-init
loop-job-init c = found_none (leg_entries 0 c.args.jobs.now) (under c.no_places-places.result)
    c.no_places-places.ensures

pub loop-job-preserved : goal.loop-job-preserved
loop-job-preserved c =
    let loop = c.loop-job in
    let item = c.job-item.result in
    let next : c.in_ok-first.first ≡ loop.first + c.leg_count-count.result =
    grind (arith, common_steps) in
    leg_more c.args.jobs.now loop.first c.in_ok-first.first loop.job-index item (under loop.places)
    (under c.put.new.places) c.loop-job-test.true c.job-item.is
    (next ∙ ap (λ n. loop.first + n) c.leg_count-count.ensures) loop.invariant
    (c.in_ok-put.ensures ∙ ap (also (under loop.places) item.name) (c.in_ok-places_from.ensures
    ∙ ap (places_from loop.first) c.leg_count-count.ensures))

pub returns : goal.returns
returns c = found_all (leg_entries c.loop-job.first) c.args.jobs.now c.loop-job.job-index
    (places_under (leg_entries 0 c.args.jobs.now)) (under c.loop-job.places)
    c.loop-job-test.false refl c.loop-job.invariant
