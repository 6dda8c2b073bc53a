use Rattle.std.proofs.Common.{◌+◌, [], ◌∷◌, ap, refl, ◌∙◌, take}
use Rattle.pl_spots.specs.Below.pl_kept.specs.Kept.{Stage}
use Rattle.pl_touched.specs.Touched.{job_places, stage_places}
use Rattle.pl_touching.proofs.Following.{fit_all, joins_all, stages_next}
use Rattle.pl_touching.proofs.plans.add_stages.Goals as goal

pub loop-stage-preserved : goal.loop-stage-preserved
loop-stage-preserved c =
    let facts = c.args.journal.now.facts in
    let are = stages_next c.args.run c.loop-stage.at c.loop-stage.stage-index c.args.stages.now
    c.stage-item.result c.loop-stage-test.true c.stage-item.is c.loop-stage.invariant.here in
    let front = stage_places c.args.run 0 (take c.loop-stage.stage-index c.args.stages.now) in
    let own = Stage c.args.run c.loop-stage.at ∷ [] in
    let jobs = job_places c.args.run c.loop-stage.at 0 c.stage-item.result.jobs in
    let both = Stage c.args.run c.loop-stage.at ∷ jobs in
    record {
      here = c.in_ok-at.ensures ∙ ap (λ n. n + 1) c.loop-stage.invariant.here;
      apart = λ were.
          c.add_jobs.ensures.apart (c.add_at.ensures.apart (c.loop-stage.invariant.apart were));
      joins = joins_all facts front both _ are c.args.rows.now.items c.loop-stage.rows.items
          c.add_jobs.new.rows.items c.loop-stage.invariant.joins
          (joins_all facts own jobs both refl c.loop-stage.rows.items c.add_at.new.rows.items
          c.add_jobs.new.rows.items c.in_ok-add_at.ensures.joins
          (rw (← c.as_slice.ensures) c.in_ok-add_jobs.ensures.joins));
      fits = fit_all facts front both _ are c.loop-stage.invariant.fits
          (fit_all facts own jobs both refl c.in_ok-add_at.ensures.fits
          (rw (← c.as_slice.ensures) c.in_ok-add_jobs.ensures.fits));
    }
